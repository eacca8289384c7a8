use Rattle.peer_head.proofs.BlockLaws.{stays_too_long_law}
use Rattle.peer_head.proofs.laws.stays_too_long.Goals as goal

pub returns : goal.returns
returns c = stays_too_long_law
