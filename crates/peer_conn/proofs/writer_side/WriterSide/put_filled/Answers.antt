use Rattle.std.proofs.Common.{◌≡◌, Err, None, Ok, Option, Result, Some, arith, inl, inr, refl, rules}
use Rattle.peer_conn.proofs.writer_side.WriterSide.put_filled.Goals as goal

-- what was made is not none
some_not_none : {A E : Type 0} {r : Result (Option A) E} {made : Option A} {a : A} → r ≡ Ok made → made ≡ Some a → r ≡ Ok None → ⊥
some_not_none e same h = cc

refused_not_none : {A E : Type 0} {r : Result (Option A) E} {fault : E} → r ≡ Err fault → r ≡ Ok None → ⊥
refused_not_none e h = cc

pub returns-in-Ok-Some-clause-counts : goal.returns-in-Ok-Some-clause-counts
returns-in-Ok-Some-clause-counts g c =
    inr (inl ((λ own. some_not_none c.in-Ok-Some.is c.in-Ok-Some.field-0-is (c.refill.ensures.own own), omega (arith, c.put_fill-in-Ok-Some.ensures.strangers, c.saturating_add-self.ensures))))

pub returns-in-Err-clause-counts : goal.returns-in-Err-clause-counts
returns-in-Err-clause-counts g c = inr (inr ((λ own. refused_not_none c.in-Err.is (c.refill.ensures.own own), refl, c.refuse.ensures.stopped)))

pub returns-in-Ok-None-clause-counts : goal.returns-in-Ok-None-clause-counts
returns-in-Ok-None-clause-counts g c = search rules

pub returns-in-Ok-Some-clause-replies : goal.returns-in-Ok-Some-clause-replies
returns-in-Ok-Some-clause-replies g c = search rules
