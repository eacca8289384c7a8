use Rattle.peer_head.proofs.FrameLemmas.{takes_any_target_law}
use Rattle.peer_head.proofs.laws.takes_any_target.Goals as goal

pub returns : goal.returns
returns c = takes_any_target_law
