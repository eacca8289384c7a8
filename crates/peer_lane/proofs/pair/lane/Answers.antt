use Rattle.std.proofs.Common.{rules}
use Rattle.peer_lane.proofs.pair.lane.Goals as goal

pub invariant_of-result : goal.invariant_of-result
invariant_of-result g c = search rules
