use Rattle.std.proofs.lemmas.Grind.{common_steps}
use Rattle.std.proofs.Common.{arith, rules}
use Rattle.peer_fill.proofs.Giving.{joined_place, led_key, led_place}
use Rattle.peer_fill.proofs.Passing.{push_rises}
use Rattle.peer_fill.proofs.pool.Pool.join_or_lead.Goals as goal

pub returns-in-Ok-Joined-clause-claim : goal.returns-in-Ok-Joined-clause-claim
returns-in-Ok-Joined-clause-claim g c = record {
  place = joined_place _ _ _ _ _ c.in-Ok-Joined.field-0-is c.in-Ok-Joined.ensures.gives;
  found = tt;
  counted = search rules;
}

pub returns-in-Ok-Led-clause-claim : goal.returns-in-Ok-Led-clause-claim
returns-in-Ok-Led-clause-claim g c = record {
  place = led_place _ _ _ _ _ _ c.in-Ok-Led.field-0-is c.in-Ok-Led.ensures.gives;
  found = tt;
  counted = search rules;
}

-- the job has the key of its flight
pub invariant_of-push : goal.invariant_of-push
invariant_of-push g c = led_key _ _ _ _ _ _ c.in-Ok-Led.field-0-is c.in-Ok-Led.ensures.gives

pub invariant_of-seat-in-Ok-Led-clause-in_order : goal.invariant_of-seat-in-Ok-Led-clause-in_order
invariant_of-seat-in-Ok-Led-clause-in_order g c = push_rises _ _ _ _ c.push.ensures.pushed c.args.seat.now.in_order

pub invariant_of-seat-in-Ok-Led-clause-pushed : goal.invariant_of-seat-in-Ok-Led-clause-pushed
invariant_of-seat-in-Ok-Led-clause-pushed g c = grind (arith, common_steps)
