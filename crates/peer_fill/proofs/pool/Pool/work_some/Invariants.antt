use Rattle.std.specs.Prelude.{◌≡◌, ◌+◌, ◌≤◌, ◌-◌}
use Rattle.peer_fill.specs.Counts.{taken_of}
use Rattle.peer_fill.specs.Pools.{IsFillSeatOf}
use Rattle.peer_fill.specs.Seats.{fills_of, fill_parts}
use Rattle.peer_fill.proofs.pool.Pool.work_some.Given as goal

abbrev pub invariant-loop-done : goal.invariant-loop-done
invariant-loop-done g l = record {
  own : IsFillSeatOf l.self l.seat;
  parts : fill_parts l.seat ≡ fill_parts l.fn.seat;
  most : l.done ≤ l.most;
  calls : (fills_of l.fn.seat).calls ≤ (fills_of l.seat).calls;
  rehits : (fills_of l.fn.seat).rehits ≤ (fills_of l.seat).rehits;
  counted : taken_of (fills_of l.seat) ≡ taken_of (fills_of l.fn.seat) + l.done;
}

abbrev pub decreases-loop-done : goal.decreases-loop-done
decreases-loop-done g l = l.most - l.done
