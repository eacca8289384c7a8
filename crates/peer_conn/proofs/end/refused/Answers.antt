use Rattle.std.proofs.Common.{rules}
use Rattle.peer_conn.proofs.end.refused.Goals as goal

pub returns : goal.returns
returns g c = search rules
