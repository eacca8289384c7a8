use Rattle.std.proofs.Common.{rules}
use Rattle.peer_head.proofs.head.is_bare.Goals as goal

pub returns : goal.returns
returns c = search rules
