use Rattle.std.proofs.Common.{rules}
use Rattle.peer_flight.proofs.flight.FillRight.put.Goals as goal

pub returns-clause-kept : goal.returns-clause-kept
returns-clause-kept g c = search rules

pub returns-clause-known : goal.returns-clause-known
returns-clause-known g c = search rules
