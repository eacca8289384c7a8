use Rattle.peer_wish.proofs.WholeLemmas.{replies_agree_law}
use Rattle.peer_wish.proofs.laws.replies_agree.Goals as goal

pub returns : goal.returns
returns c = replies_agree_law
