use Rattle.std.proofs.Common.{rules}
use Rattle.peer_wish.proofs.wish.lent_wish_of.Goals as goal

pub returns : goal.returns
returns g c = search rules
