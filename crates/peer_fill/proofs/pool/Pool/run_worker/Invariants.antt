use Rattle.std.specs.Prelude.{◌≡◌, ◌≤◌, ◌-◌, ◌^◌}
use Rattle.peer_fill.specs.Counts.{taken_of}
use Rattle.peer_fill.specs.Pools.{IsFillSeatOf}
use Rattle.peer_fill.specs.Seats.{fills_of, fill_parts}
use Rattle.peer_fill.proofs.pool.Pool.run_worker.Given as goal

abbrev pub invariant-loop-alloc : goal.invariant-loop-alloc
invariant-loop-alloc g l = record {
  own : IsFillSeatOf l.self l.seat;
  parts : fill_parts l.seat ≡ fill_parts l.fn.seat;
  calls : (fills_of l.fn.seat).calls ≤ (fills_of l.seat).calls;
  rehits : (fills_of l.fn.seat).rehits ≤ (fills_of l.seat).rehits;
}

abbrev pub decreases-loop-alloc : goal.decreases-loop-alloc
decreases-loop-alloc g l = 2 ^ 56 - taken_of (fills_of l.seat)
