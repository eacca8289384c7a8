use Rattle.peer_head.proofs.BlockLaws.{leaves_less_law}
use Rattle.peer_head.proofs.laws.leaves_less.Goals as goal

pub returns : goal.returns
returns c = leaves_less_law
