use Rattle.std.proofs.Common.{rules}
use Rattle.peer_path.proofs.place.locate.Goals as goal

pub returns-clause-place : goal.returns-clause-place
returns-clause-place c = search rules

pub returns-in_default-clause-fault : goal.returns-in_default-clause-fault
returns-in_default-clause-fault c = search rules

pub returns-in_err-decode_path-clause-fault : goal.returns-in_err-decode_path-clause-fault
returns-in_err-decode_path-clause-fault c = search rules
