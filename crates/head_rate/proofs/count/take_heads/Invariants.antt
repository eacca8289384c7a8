use Rattle.std.proofs.Common.{length}
use Rattle.head_rate.proofs.count.take_heads.Given as goal

abbrev pub decreases-loop-held : goal.decreases-loop-held
decreases-loop-held l = length l.held.held
