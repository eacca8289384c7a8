use Rattle.std.proofs.Common.{◌∙◌, arith, rules}
use Rattle.peer_fill.proofs.Ordering.{popped_rises}
use Rattle.peer_fill.proofs.Passing.{pop_count, pop_parts, pop_pushed}
use Rattle.peer_fill.proofs.pool.Pool.work_one.Goals as goal

pub put_and_land-requires : goal.put_and_land-requires
put_and_land-requires g c = search rules

pub invariant_of-seat-2-clause-has_parts : goal.invariant_of-seat-2-clause-has_parts
invariant_of-seat-2-clause-has_parts g c = c.args.seat.now.has_parts

pub invariant_of-seat-2-clause-pass_parts : goal.invariant_of-seat-2-clause-pass_parts
invariant_of-seat-2-clause-pass_parts g c = pop_parts _ _ _ c.in-Some.ensures.popped ∙ c.args.seat.now.pass_parts

pub invariant_of-seat-2-clause-pushed : goal.invariant_of-seat-2-clause-pushed
invariant_of-seat-2-clause-pushed g c = pop_pushed _ _ _ c.in-Some.ensures.popped ∙ c.args.seat.now.pushed

pub invariant_of-seat-2-clause-popped : goal.invariant_of-seat-2-clause-popped
invariant_of-seat-2-clause-popped g c =
    omega (arith, pop_count _ _ _ c.in-Some.ensures.popped, c.args.seat.now.popped, c.count.ensures.sum)

pub invariant_of-seat-2-clause-in_order : goal.invariant_of-seat-2-clause-in_order
invariant_of-seat-2-clause-in_order g c = popped_rises _ _ _ c.in-Some.ensures.popped c.args.seat.now.in_order

pub invariant_of-seat-2-clause-most : goal.invariant_of-seat-2-clause-most
invariant_of-seat-2-clause-most g c = omega (arith, c.count.ensures.sum, c.requires.most)

pub invariant_of-seat-2-clause-none_evicted : goal.invariant_of-seat-2-clause-none_evicted
invariant_of-seat-2-clause-none_evicted g c = c.keep_made.ensures
