use Rattle.std.proofs.Common.{rules}
use Rattle.peer_conn.proofs.end.end_of.Goals as goal

pub returns-in-Active-Cut : goal.returns-in-Active-Cut
returns-in-Active-Cut c = search rules
