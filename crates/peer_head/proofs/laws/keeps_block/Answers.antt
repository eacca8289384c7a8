use Rattle.peer_head.proofs.BlockLaws.{keeps_block_law}
use Rattle.peer_head.proofs.laws.keeps_block.Goals as goal

pub returns : goal.returns
returns c = keeps_block_law
