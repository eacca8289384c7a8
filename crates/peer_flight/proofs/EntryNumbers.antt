-- The number of the entry of a place, after an entry was put in or taken out.
use Rattle.std.proofs.Common.{◌≡◌, ◌≢◌, ℕ, Bool, true, false, cond, Some, None, Option, refl, ap, sym, ◌∙◌, ◌⊎◌, inl, inr}
use Rattle.std.specs.Option.{option_map, is_some}
use Rattle.peer_flight.specs.SingleFlight.{Place, place_eq}
use Rattle.peer_flight.specs.Flights.{FlightId}
use Rattle.peer_flight.proofs.PlaceCases.{cases_place, place_eq_same, place_eq_other}

-- the number of an entry
abbrev pub number_at : Option FlightId → Option ℕ
number_at = option_map (λ f. f.number)

number_cond : (b : Bool) (x y : Option FlightId) → number_at (cond b x y) ≡ cond b (number_at x) (number_at y)
number_cond true x y = refl
number_cond false x y = refl

-- an entry is the one that was put in, or another place's
pub entry_cases : (old new : Place → Option FlightId) (p : Place) (x : Option FlightId) (updates : (q : Place) → new q ≡ cond (place_eq p q) x (old q)) (q : Place) (y : FlightId) → new q ≡ Some y → ((q ≡ p) × (x ≡ Some y)) ⊎ (old q ≡ Some y)
entry_cases old new p x updates q y is =
    elim (cases_place q p) [
      | inl same ↦ inl (same, sym (updates q ∙ ap (λ b. cond b x (old q)) (ap (place_eq p) same ∙ place_eq_same p)) ∙ is)
      | inr differ ↦ inr (sym (updates q ∙ ap (λ b. cond b x (old q)) (place_eq_other p q differ)) ∙ is)
    ]

-- the place has the entry that was put in, and every other place keeps its own
pub entry_at : (old new : Place → Option FlightId) (p : Place) (x : Option FlightId) (updates : (q : Place) → new q ≡ cond (place_eq p q) x (old q)) → new p ≡ x
entry_at old new p x updates = updates p ∙ ap (λ b. cond b x (old p)) (place_eq_same p)

pub entry_else : (old new : Place → Option FlightId) (p : Place) (x : Option FlightId) (updates : (q : Place) → new q ≡ cond (place_eq p q) x (old q)) (q : Place) → q ≢ p → new q ≡ old q
entry_else old new p x updates q differ = updates q ∙ ap (λ b. cond b x (old q)) (place_eq_other p q differ)

module _ (old new : Place → Option FlightId) (p : Place) (x : Option FlightId) (updates : (q : Place) → new q ≡ cond (place_eq p q) x (old q)) where
  -- the place has the entry that was put in, or none if it was taken out
  pub at_place : number_at (new p) ≡ number_at x
  at_place = ap number_at (updates p ∙ ap (λ b. cond b x (old p)) (place_eq_same p))

  -- every other place keeps its entry
  pub at_other : (q : Place) → q ≢ p → number_at (new q) ≡ number_at (old q)
  at_other q differ = ap number_at (updates q ∙ ap (λ b. cond b x (old q)) (place_eq_other p q differ))

-- an entry has a number, and no entry none
pub number_is_there : (o : Option FlightId) → is_some (number_at o) ≡ is_some o
number_is_there None = refl
number_is_there (Some x) = refl
