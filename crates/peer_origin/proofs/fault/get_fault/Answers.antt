use Rattle.std.proofs.Common.{rules}
use Rattle.peer_origin.proofs.fault.get_fault.Goals as goal

pub returns-in-Late : goal.returns-in-Late
returns-in-Late c = search rules
