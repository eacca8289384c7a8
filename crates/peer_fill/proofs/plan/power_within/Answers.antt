use Rattle.std.proofs.Common.{inr, refl, arith}
use Rattle.peer_fill.proofs.plan.power_within.Goals as goal

pub returns-then-most-ge32 : goal.returns-then-most-ge32
returns-then-most-ge32 c = record { one = (5, omega arith, refl); within = inr (omega arith); largest = inr (omega arith) }

pub returns-then-most-ge16 : goal.returns-then-most-ge16
returns-then-most-ge16 c = record { one = (4, omega arith, refl); within = inr (omega arith); largest = inr (omega arith) }

pub returns-then-most-ge8 : goal.returns-then-most-ge8
returns-then-most-ge8 c = record { one = (3, omega arith, refl); within = inr (omega arith); largest = inr (omega arith) }

pub returns-then-most-ge4 : goal.returns-then-most-ge4
returns-then-most-ge4 c = record { one = (2, omega arith, refl); within = inr (omega arith); largest = inr (omega arith) }
