use Rattle.std.proofs.Common.{◌≡◌}
use Rattle.peer_lane.specs.Lanes.{tickets_taken, tickets_known, IsSameOut}
use Rattle.peer_lane.proofs.lane_out.LaneOut.take_waiting.Given as goal

-- nothing was taken yet, and nothing more is known
abbrev pub invariant-loop : goal.invariant-loop
invariant-loop g l = record {
  lane : IsSameOut l.fn.self l.self;
  taken : tickets_taken l.self ≡ tickets_taken l.fn.self;
  known : tickets_known l.self ≡ tickets_known l.fn.self;
}
