use Rattle.peer_wish.proofs.WholeLemmas.{has_one_list_law}
use Rattle.peer_wish.proofs.laws.has_one_list_of_wishes.Goals as goal

pub returns : goal.returns
returns c = has_one_list_law
