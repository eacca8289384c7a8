use Rattle.peer_head.proofs.LookLaws.{is_one_head_law}
use Rattle.peer_head.proofs.laws.is_one_head.Goals as goal

pub returns : goal.returns
returns c = is_one_head_law
