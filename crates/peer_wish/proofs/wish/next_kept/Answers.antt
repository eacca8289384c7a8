use Rattle.std.proofs.Common.{rules}
use Rattle.peer_wish.proofs.wish.next_kept.Goals as goal

pub returns : goal.returns
returns g c = search rules
