use Rattle.std.proofs.Common.{arith}
use Rattle.peer_fill.proofs.Ordering.{popped_rises}
use Rattle.peer_fill.proofs.Passing.{pop_count}
use Rattle.peer_fill.proofs.pool.Pool.take_job.Goals as goal

pub invariant_of-seat-in_default-cached_fill-clause-in_order : goal.invariant_of-seat-in_default-cached_fill-clause-in_order
invariant_of-seat-in_default-cached_fill-clause-in_order g c = popped_rises _ _ _ c.in-Some.ensures.popped c.loop-seat.seat.in_order

pub invariant_of-seat-in-loop-seat-clause-in_order : goal.invariant_of-seat-in-loop-seat-clause-in_order
invariant_of-seat-in-loop-seat-clause-in_order g c = popped_rises _ _ _ c.in-Some.ensures.popped c.loop-seat.seat.in_order

pub invariant_of-seat-in_default-cached_fill-clause-popped : goal.invariant_of-seat-in_default-cached_fill-clause-popped
invariant_of-seat-in_default-cached_fill-clause-popped g c =
    omega (arith, pop_count _ _ _ c.in-Some.ensures.popped, c.loop-seat.seat.popped)

pub invariant_of-seat-in-loop-seat-clause-popped : goal.invariant_of-seat-in-loop-seat-clause-popped
invariant_of-seat-in-loop-seat-clause-popped g c =
    omega (arith, pop_count _ _ _ c.in-Some.ensures.popped, c.loop-seat.seat.popped)
