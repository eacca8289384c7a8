use Rattle.peer_wish.proofs.WholeLemmas.{ends_with_closing_law}
use Rattle.peer_wish.proofs.laws.ends_with_closing.Goals as goal

pub returns : goal.returns
returns c = ends_with_closing_law
