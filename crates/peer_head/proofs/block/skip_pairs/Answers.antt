use Rattle.std.proofs.Common.{arith}
use Rattle.peer_head.proofs.BlockLemmas.{one_pair_more}
use Rattle.peer_head.proofs.block.skip_pairs.Goals as goal

pub loop-at-preserved : goal.loop-at-preserved
loop-at-preserved c = one_pair_more _ _ c.loop-at.invariant (omega arith) c.if-text-at-eq13.true c.if-text-at-eq10.true
