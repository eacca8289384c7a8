use Rattle.peer_wish.proofs.WholeLemmas.{begins_with_first_law}
use Rattle.peer_wish.proofs.laws.begins_with_first.Goals as goal

pub returns : goal.returns
returns c = begins_with_first_law
