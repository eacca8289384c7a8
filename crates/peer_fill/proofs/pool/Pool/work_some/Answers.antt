use Rattle.std.proofs.Common.{rules}
use Rattle.peer_fill.proofs.pool.Pool.work_some.Goals as goal

pub loop-done-preserved : goal.loop-done-preserved
loop-done-preserved g c = search rules
