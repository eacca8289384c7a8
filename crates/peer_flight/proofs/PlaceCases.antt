-- Two places are the same or not.
use Rattle.std.proofs.Common.{◌≡◌, ◌≢◌, ◌==◌, true, false, refl, ap, sym, ◌⊎◌, inl, inr}
use Rattle.std.specs.Bool.{Decides}
use Rattle.std.specs.Cmp.{IsEquivalence}
use Rattle.std.specs.Prelude.{bytes_eq}
use Rattle.std.proofs.lemmas.Bool.{cases_Bool, false_from_ne_true}
use Rattle.std.proofs.lemmas.Bool.Decides.{Decides-eqb, Decides-and, Decides-like, not_from_Decides, same_from_decides}
use Rattle.std.proofs.lemmas.Slice.Eq.{bytes_eq-Decides}
use Rattle.peer_flight.specs.SingleFlight.{Place, place_eq}

-- the test of two places tells whether they are the same
pub place_eq-Decides : (p q : Place) → Decides (place_eq p q) (p ≡ q)
place_eq-Decides p q =
    Decides-like (place_eq p q)
    (λ (both : (p.group ≡ q.group) × (p.key ≡ q.key)). λ i. record { group = both.0 i; key = both.1 i })
    (λ (same : p ≡ q). (ap (λ (x : Place). x.group) same, ap (λ (x : Place). x.key) same))
    (Decides-and (p.group == q.group) (bytes_eq p.key q.key) (Decides-eqb p.group q.group) (bytes_eq-Decides p.key q.key))

-- two places are the same or not
pub cases_place : (p q : Place) → (p ≡ q) ⊎ (p ≢ q)
cases_place p q =
    elim (cases_Bool (place_eq p q)) [
      | inl passes ↦ inl ((place_eq-Decides p q).0 passes)
      | inr fails ↦ inr (not_from_Decides (place_eq p q) (place_eq-Decides p q) fails)
    ]

-- the test passes at the same place, and at no other
pub place_eq_same : (p : Place) → place_eq p p ≡ true
place_eq_same p = (place_eq-Decides p p).1 refl

pub place_eq_other : (p q : Place) → q ≢ p → place_eq p q ≡ false
place_eq_other p q differ = false_from_ne_true (place_eq p q) (λ passes. differ (sym ((place_eq-Decides p q).0 passes)))

-- the test is an equality
pub place_eq_equivalence : IsEquivalence place_eq
place_eq_equivalence = record {
  refl = place_eq_same;
  symm = λ p q. same_from_decides (place_eq p q) (place_eq q p) (place_eq-Decides p q) (Decides-like (place_eq q p) sym sym (place_eq-Decides q p));
  congr = λ p q r passes. ap (λ x. place_eq x r) ((place_eq-Decides p q).0 passes);
}
