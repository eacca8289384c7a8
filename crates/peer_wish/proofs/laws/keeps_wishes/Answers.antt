use Rattle.peer_wish.proofs.WholeLemmas.{keeps_wishes_law}
use Rattle.peer_wish.proofs.laws.keeps_wishes.Goals as goal

pub returns : goal.returns
returns c = keeps_wishes_law
