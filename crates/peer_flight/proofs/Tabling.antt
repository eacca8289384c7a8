-- How the table and the flights go on together.
use Rattle.std.proofs.Common.{◌≡◌, ◌≢◌, ℕ, ◌+◌, List, [], ◌∷◌, ◌++◌, length, Some, refl, ap, sym, subst, ◌∙◌, inl, inr, arith, length-append}
use Rattle.std.proofs.Math.ListN.{set, length-set}
use Rattle.std.specs.List.{slice_get}
use Rattle.std.proofs.lemmas.Option.{none-some, same_Some}
use Rattle.std.proofs.lemmas.Bool.{cases_eq}
use Rattle.peer_source.specs.Answers.{Answer}
use Rattle.peer_flight.specs.SingleFlight.{Place, State, IsSame, Leads, Lands}
use Rattle.peer_flight.specs.World.{Unset, Answered, Flight, new_flight}
use Rattle.peer_flight.specs.Laws.{IsFlight}
use Rattle.peer_flight.proofs.ListSteps.{at_set, set_here, set_else, at_push, push_keeps, push_last}
use Rattle.peer_flight.proofs.PlaceCases.{cases_place}
use Rattle.peer_flight.proofs.Sound.{Tabled, Allowed}

-- flight m of these flights is open, and of the place
abbrev pub IsOpenAt : List Flight → Place → ℕ → Type 0
IsOpenAt flights p m = (f : Flight) × IsFlight flights m f × (f.place ≡ p) × (f.landed ≡ 0)

-- a table that says the same has the same flights
pub tabled_same : (s s' : State) (flights : List Flight) → Tabled s flights → IsSame s s' → Tabled s' flights
tabled_same s s' flights old same = record {
  number = same.number ∙ old.number;
  found = λ p m is. old.found p m (sym (same.live p) ∙ is);
  open_flight = λ m f led none. same.live f.place ∙ old.open_flight m f led none;
}

-- a flight that is led stands in the table
pub tabled_led : (s s' : State) (flights : List Flight) (p : Place) (m : ℕ) → Tabled s flights → Leads s s' p m → Tabled s' (flights ++ new_flight p ∷ [])
tabled_led s s' flights p m old leads =
    let is_last : m ≡ length flights = leads.number ∙ old.number in
    let last : IsFlight (flights ++ new_flight p ∷ []) m (new_flight p) = subst (λ k. IsFlight (flights ++ new_flight p ∷ []) k (new_flight p)) (sym is_last) (push_last flights (new_flight p)) in
    record {
      number = omega (arith, leads.next, old.number, length-append flights (new_flight p ∷ []));
      found = λ q k is.
          elim (cases_place q p) [
            | inl same ↦
                let at_p : s'.live p ≡ Some k = ap s'.live (sym same) ∙ is in
                let number : m ≡ k = same_Some m k (sym leads.live ∙ at_p) in
                subst (IsOpenAt (flights ++ new_flight p ∷ []) q) number (new_flight p, last, sym same, refl)
            | inr differ ↦
                let there = old.found q k (sym (leads.others q differ) ∙ is) in
                (there.0, push_keeps flights (new_flight p ∷ []) there.0 k there.1, there.2, there.3)
          ];
      open_flight = λ k f led none.
          elim (at_push flights (new_flight p) f k led) [
            | inl both ↦
                let place : f.place ≡ p = ap (λ (x : Flight). x.place) both.1 in
                ap s'.live place ∙ leads.live ∙ ap Some (is_last ∙ sym both.0)
            | inr there ↦
                let was : s.live f.place ≡ Some k = old.open_flight k f there none in
                leads.others f.place (λ (same : f.place ≡ p). none-some k (sym leads.none ∙ ap s.live (sym same) ∙ was)) ∙ was
          ];
    }

-- a flight that keeps its place and has not landed more keeps its entry
pub tabled_kept : (s : State) (flights : List Flight) (n : ℕ) (x y : Flight) → Tabled s flights → IsFlight flights n x → y.place ≡ x.place → y.landed ≡ x.landed → Tabled s (set flights n y)
tabled_kept s flights n x y old led place landed = record {
  number = old.number ∙ sym (length-set flights n y);
  found = λ p m is.
      let there = old.found p m is in
      elim (cases_eq m n) [
        | inl same ↦
            let as_x : there.0 ≡ x = same_Some there.0 x (sym there.1 ∙ ap (slice_get flights) same ∙ led) in
            let here : IsFlight (set flights n y) m y = ap (slice_get (set flights n y)) same ∙ set_here flights n x y led in
            (y, here, place ∙ sym (ap (λ (f : Flight). f.place) as_x) ∙ there.2, landed ∙ sym (ap (λ (f : Flight). f.landed) as_x) ∙ there.3)
        | inr differ ↦ (there.0, set_else flights n m y differ ∙ there.1, there.2, there.3)
      ];
  open_flight = λ m f is none.
      elim (at_set flights n m y f is) [
        | inl both ↦
            let landed_x : x.landed ≡ 0 = sym landed ∙ ap (λ (g : Flight). g.landed) (sym both.1) ∙ none in
            let place_x : f.place ≡ x.place = ap (λ (g : Flight). g.place) both.1 ∙ place in
            ap s.live place_x ∙ old.open_flight n x led landed_x ∙ ap Some (sym both.0)
        | inr both ↦ old.open_flight m f both.1 none
      ];
}

-- a flight that lands leaves the table
pub tabled_landed : (s s' : State) (flights : List Flight) (n : ℕ) (x : Flight) → Tabled s flights → IsFlight flights n x → x.landed ≡ 0 → Lands s s' x.place n → Tabled s' (set flights n (record x { landed = x.landed + 1 }))
tabled_landed s s' flights n x old led none lands =
    let was : s.live x.place ≡ Some n = old.open_flight n x led none in
    let y : Flight = record x { landed = x.landed + 1 } in
    record {
      number = lands.number ∙ old.number ∙ sym (length-set flights n y);
      found = λ p m is.
          elim (cases_place p x.place) [
            | inl same ↦ absurd (none-some m (sym (lands.found was) ∙ ap s'.live (sym same) ∙ is))
            | inr differ ↦
                let there = old.found p m (sym (lands.others p differ) ∙ is) in
                let other : m ≢ n = λ (same : m ≡ n).
                let as_x : there.0 ≡ x = same_Some there.0 x (sym there.1 ∙ ap (slice_get flights) same ∙ led) in
                differ (sym there.2 ∙ ap (λ (f : Flight). f.place) as_x) in
                (there.0, set_else flights n m y other ∙ there.1, there.2, there.3)
          ];
      open_flight = λ m f is open_f.
          elim (at_set flights n m y f is) [
            | inl both ↦
                let more : f.landed ≡ x.landed + 1 = ap (λ (g : Flight). g.landed) both.1 in
                absurd (omega arith)
            | inr both ↦
                let there : s.live f.place ≡ Some m = old.open_flight m f both.1 open_f in
                lands.others f.place (λ (same : f.place ≡ x.place). both.0 (same_Some m n (sym there ∙ ap s.live same ∙ was))) ∙ there
          ];
    }

-- a flight that keeps its place and its outcome brings no new answer
pub allowed_kept : (allowed : ℕ → List ℕ → Answer → Type 0) (flights : List Flight) (n : ℕ) (x y : Flight) → Allowed allowed flights → ((a : Answer) → y.outcome ≡ Answered a → ∥ allowed y.place.group y.place.key a ∥₁) → Allowed allowed (set flights n y)
allowed_kept allowed flights n x y old now m f a is brought =
    elim (at_set flights n m y f is) [
      | inl both ↦
          let P : Flight → Type 0 = λ z. z.outcome ≡ Answered a → ∥ allowed z.place.group z.place.key a ∥₁ in
          subst P (sym both.1) (now a) brought
      | inr both ↦ old m f a both.1 brought
    ]

-- a new flight brings no answer
pub allowed_led : (allowed : ℕ → List ℕ → Answer → Type 0) (flights : List Flight) (p : Place) → Allowed allowed flights → Allowed allowed (flights ++ new_flight p ∷ [])
allowed_led allowed flights p old m f a is brought =
    elim (at_push flights (new_flight p) f m is) [
      | inl both ↦ let unset : f.outcome ≡ Unset = ap (λ (x : Flight). x.outcome) both.1 in let e : Unset ≡ Answered a = sym unset ∙ brought in cc
      | inr there ↦ old m f a there brought
    ]
