use Rattle.std.proofs.Common.{◌≡◌, ◌≤◌}
use Rattle.peer_lane.specs.Lanes.{tickets_put, free_places, IsSameIn}
use Rattle.peer_lane.proofs.lane_in.LaneIn.put_waiting.Given as goal

-- nothing was put yet
abbrev pub invariant-loop : goal.invariant-loop
invariant-loop g l = record {
  lane : IsSameIn l.fn.self l.self;
  put : tickets_put l.self ≡ tickets_put l.fn.self;
  places : free_places l.fn.self ≤ free_places l.self;
  ticket : l.ticket ≡ l.fn.ticket;
}
