use Rattle.peer_head.proofs.BlockLaws.{begins_once_law}
use Rattle.peer_head.proofs.laws.begins_once.Goals as goal

pub returns : goal.returns
returns c = begins_once_law
