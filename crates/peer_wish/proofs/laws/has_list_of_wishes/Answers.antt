use Rattle.peer_wish.proofs.TextLemmas.{whole}
use Rattle.peer_wish.proofs.laws.has_list_of_wishes.Goals as goal

pub returns : goal.returns
returns c = whole
