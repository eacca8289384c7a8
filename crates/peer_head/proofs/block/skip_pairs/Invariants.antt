use Rattle.std.proofs.Common.{◌-◌, length}
use Rattle.peer_head.proofs.BlockLemmas.{PairsBefore}
use Rattle.peer_head.proofs.block.skip_pairs.Given as goal

abbrev pub invariant-loop-at : goal.invariant-loop-at
invariant-loop-at l = PairsBefore l.text l.at

abbrev pub decreases-loop-at : goal.decreases-loop-at
decreases-loop-at l = length l.text - l.at
