use Rattle.std.proofs.Common.{rules}
use Rattle.peer_fetch.proofs.link.Link.begin.Goals as goal

pub put-requires-clause-number : goal.put-requires-clause-number
put-requires-clause-number g c = search rules
