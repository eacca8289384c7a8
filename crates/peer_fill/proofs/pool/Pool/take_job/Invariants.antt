use Rattle.std.specs.Prelude.{◌≡◌, ◌≤◌, ◌-◌, ◌^◌}
use Rattle.peer_fill.specs.Counts.{taken_of}
use Rattle.peer_fill.specs.Pools.{IsFillSeatOf}
use Rattle.peer_fill.specs.Seats.{fills_of, fill_parts}
use Rattle.peer_fill.proofs.pool.Pool.take_job.Given as goal

abbrev pub invariant-loop-seat : goal.invariant-loop-seat
invariant-loop-seat g l = record {
  own : IsFillSeatOf l.self l.seat;
  parts : fill_parts l.seat ≡ fill_parts l.fn.seat;
  calls : (fills_of l.seat).calls ≡ (fills_of l.fn.seat).calls;
  rehits : (fills_of l.fn.seat).rehits ≤ (fills_of l.seat).rehits;
}

abbrev pub decreases-loop-seat : goal.decreases-loop-seat
decreases-loop-seat g l = 2 ^ 56 - taken_of (fills_of l.seat)
