use Rattle.std.proofs.Common.{◌+◌, ◌≤◌}
use Rattle.peer_lane.specs.Lanes.{free_places, IsSameIn}
use Rattle.pool_tests.proofs.tests.lanes.full.fill_up.Given as goal

-- each ticket takes one place of the lane
abbrev pub invariant-loop-number : goal.invariant-loop-number
invariant-loop-number l = record {
  lane : IsSameIn l.fn.put l.put;
  places : 64 ≤ free_places l.put + l.number;
}
