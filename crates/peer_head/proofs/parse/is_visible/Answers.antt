use Rattle.std.proofs.Common.{rules}
use Rattle.peer_head.proofs.parse.is_visible.Goals as goal

pub loop-b-preserved : goal.loop-b-preserved
loop-b-preserved c = search rules
