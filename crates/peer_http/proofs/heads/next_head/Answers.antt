use Rattle.std.proofs.Common.{rules}
use Rattle.peer_http.proofs.heads.next_head.Goals as goal

pub returns-in-Informational : goal.returns-in-Informational
returns-in-Informational c = search rules
