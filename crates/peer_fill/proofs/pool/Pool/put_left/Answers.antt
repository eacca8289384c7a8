use Rattle.std.proofs.lemmas.Grind.{common_steps}
use Rattle.std.proofs.Common.{arith, rules}
use Rattle.peer_fill.proofs.Passing.{push_rises}
use Rattle.peer_fill.proofs.pool.Pool.put_left.Goals as goal

pub invariant_of-seat-2-clause-in_order : goal.invariant_of-seat-2-clause-in_order
invariant_of-seat-2-clause-in_order g c = push_rises _ _ _ _ c.push-back.ensures.pushed c.args.seat.now.in_order

pub invariant_of-seat-2-clause-pushed : goal.invariant_of-seat-2-clause-pushed
invariant_of-seat-2-clause-pushed g c = grind (arith, common_steps)

pub returns-clause-exactly : goal.returns-clause-exactly
returns-clause-exactly g c = search rules
