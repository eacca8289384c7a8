-- How the counts of a flight move with each event.
use Rattle.std.proofs.Common.{◌≡◌, ◌≢◌, ℕ, ◌+◌, ◌≤◌, true, cond, List, [], ◌∷◌, ◌++◌, length, refl, ap, sym, subst, inl, inr, arith, length-append}
use Rattle.std.proofs.Math.ListN.{set, length-set}
use Rattle.std.proofs.lemmas.Bool.{eq-eqb, ne_eqb}
use Rattle.std.proofs.lemmas.Option.{slice_get_within}
use Rattle.peer_flight.specs.SingleFlight.{Place}
use Rattle.peer_flight.specs.World.{Outcome, Flight, new_flight}
use Rattle.peer_flight.specs.Counts.{same}
use Rattle.peer_flight.specs.Laws.{IsFlight}
use Rattle.peer_flight.proofs.ListSteps.{at_set, at_push}
use Rattle.peer_flight.proofs.Sound.{Balances, Counted, outcomes}

pub same_self : (m k : ℕ) → m ≡ k → same m k ≡ 1
same_self m k is = ap (λ b. cond b 1 0) (eq-eqb m k is)

pub same_other : (m k : ℕ) → m ≢ k → same m k ≡ 0
same_other m k differ = ap (λ b. cond b 1 0) (ne_eqb m k differ)

-- what a write of a flight leaves of the numbers that were not given
none_set : (flights : List Flight) (n : ℕ) (x : Flight) → IsFlight flights n x → (y : Flight) (m : ℕ) → length (set flights n y) ≤ m → (length flights ≤ m) × (m ≢ n)
none_set flights n x led y m past =
    let within = slice_get_within flights n x led in
    let long : length flights ≤ m = omega (arith, length-set flights n y) in
    (long, λ (is : m ≡ n). omega arith)

module _ {flights : List Flight} {h j f l : ℕ → ℕ} where
  -- a right that goes from a hand to the job list
  pub counted_moved : (h' j' : ℕ → ℕ) → Counted flights h j f l → ((m : ℕ) → h' m + j' m ≡ h m + j m) → Counted flights h' j' f l
  counted_moved h' j' old moves = record {
    each = λ m x is. let b = old.each m x is in let e = moves m in record { right = omega arith; taken = b.taken; sets = b.sets; uses = b.uses; outcome = b.outcome };
    none = λ m past. let b = old.none m past in let e = moves m in omega arith;
  }

  -- the same counts of workers, written otherwise
  pub counted_same_f : (f' : ℕ → ℕ) → ((m : ℕ) → f' m ≡ f m) → Counted flights h j f l → Counted flights h j f' l
  counted_same_f f' same old = record {
    each = λ m x is. let b = old.each m x is in let e = same m in record { right = omega arith; taken = omega arith; sets = b.sets; uses = b.uses; outcome = b.outcome };
    none = λ m past. let b = old.none m past in let e = same m in omega arith;
  }

  pub counted_same_l : (l' : ℕ → ℕ) → ((m : ℕ) → l' m ≡ l m) → Counted flights h j f l → Counted flights h j f l'
  counted_same_l l' same old = record {
    each = λ m x is. let b = old.each m x is in let e = same m in record { right = b.right; taken = b.taken; sets = omega arith; uses = b.uses; outcome = b.outcome };
    none = λ m past. let b = old.none m past in let e = same m in omega arith;
  }

  -- a new flight, with its right in a hand
  pub counted_led : (h' : ℕ → ℕ) (p : Place) → Counted flights h j f l → ((m : ℕ) → h' m ≡ h m + same m (length flights)) → Counted (flights ++ new_flight p ∷ []) h' j f l
  counted_led h' p old leads = record {
    each = λ m x is.
        elim (at_push flights (new_flight p) x m is) [
          | inl both ↦
              let b = old.none m (omega (arith, both.0)) in
              let e = leads m in
              let one = same_self m (length flights) both.0 in
              let P : Flight → Type 0 = λ y. Balances (h' m) (j m) (f m) (l m) y in
              subst P (sym both.1) (record { right = omega arith; taken = omega arith; sets = omega arith; uses = refl; outcome = refl })
          | inr there ↦
              let b = old.each m x there in
              let e = leads m in
              let zero_here = same_other m (length flights) (λ (is : m ≡ length flights). let w = slice_get_within flights m x there in omega arith) in
              record { right = omega arith; taken = b.taken; sets = b.sets; uses = b.uses; outcome = b.outcome }
        ];
    none = λ m past.
        let longer : length flights + 1 ≤ m = omega (arith, length-append flights (new_flight p ∷ [])) in
        let b = old.none m (omega arith) in
        let e = leads m in
        let zero_here = same_other m (length flights) (λ (is : m ≡ length flights). omega arith) in
        omega arith;
  }

  module _ (n : ℕ) (x : Flight) (led : IsFlight flights n x) where
    -- a job is taken by a worker
    pub counted_taken : (j' f' : ℕ → ℕ) → Counted flights h j f l → ((m : ℕ) → j m ≡ same m n + j' m) → ((m : ℕ) → f' m ≡ f m + same m n) → Counted (set flights n (record x { taken = x.taken + 1 })) h j' f' l
    counted_taken j' f' old out come = record {
      each = λ m y is.
          elim (at_set flights n m (record x { taken = x.taken + 1 }) y is) [
            | inl both ↦
                let b = old.each n x led in
                let o = out n in
                let i = come n in
                let one = same_self n n refl in
                let P : ℕ → Flight → Type 0 = λ k z. Balances (h k) (j' k) (f' k) (l k) z in
                subst (λ k. P k y) (sym both.0) (subst (P n) (sym both.1) (record { right = omega arith; taken = omega arith; sets = b.sets; uses = b.uses; outcome = b.outcome }))
            | inr both ↦
                let b = old.each m y both.1 in
                let o = out m in
                let i = come m in
                let nothing = same_other m n both.0 in
                record { right = omega arith; taken = omega arith; sets = b.sets; uses = b.uses; outcome = b.outcome }
          ];
      none = λ m past.
          let s = none_set flights n x led (record x { taken = x.taken + 1 }) m past in
          let b = old.none m s.0 in
          let o = out m in
          let i = come m in
          let nothing = same_other m n s.1 in
          omega arith;
    }

    -- a worker's right is spent
    pub counted_set : (f' l' : ℕ → ℕ) (outcome : Outcome) → outcomes outcome ≡ 1 → Counted flights h j f l → ((m : ℕ) → f' m + same m n ≡ f m) → ((m : ℕ) → l' m ≡ l m + same m n) → Counted (set flights n (record x { outcome = outcome; spent = true; sets = x.sets + 1 })) h j f' l'
    counted_set f' l' outcome has old out come = record {
      each = λ m y is.
          elim (at_set flights n m (record x { outcome = outcome; spent = true; sets = x.sets + 1 }) y is) [
            | inl both ↦
                let b = old.each n x led in
                let o = out n in
                let i = come n in
                let one = same_self n n refl in
                let P : ℕ → Flight → Type 0 = λ k z. Balances (h k) (j k) (f' k) (l' k) z in
                subst (λ k. P k y) (sym both.0) (subst (P n) (sym both.1) (record { right = omega arith; taken = omega arith; sets = omega arith; uses = omega arith; outcome = omega arith }))
            | inr both ↦
                let b = old.each m y both.1 in
                let o = out m in
                let i = come m in
                let nothing = same_other m n both.0 in
                record { right = omega arith; taken = omega arith; sets = omega arith; uses = b.uses; outcome = b.outcome }
          ];
      none = λ m past.
          let s = none_set flights n x led (record x { outcome = outcome; spent = true; sets = x.sets + 1 }) m past in
          let b = old.none m s.0 in
          let o = out m in
          let i = come m in
          let nothing = same_other m n s.1 in
          omega arith;
    }

    -- a worker's flight lands
    pub counted_landed : (l' : ℕ → ℕ) → Counted flights h j f l → ((m : ℕ) → l' m + same m n ≡ l m) → Counted (set flights n (record x { landed = x.landed + 1 })) h j f l'
    counted_landed l' old out = record {
      each = λ m y is.
          elim (at_set flights n m (record x { landed = x.landed + 1 }) y is) [
            | inl both ↦
                let b = old.each n x led in
                let o = out n in
                let one = same_self n n refl in
                let P : ℕ → Flight → Type 0 = λ k z. Balances (h k) (j k) (f k) (l' k) z in
                subst (λ k. P k y) (sym both.0) (subst (P n) (sym both.1) (record { right = b.right; taken = b.taken; sets = omega arith; uses = b.uses; outcome = b.outcome }))
            | inr both ↦
                let b = old.each m y both.1 in
                let o = out m in
                let nothing = same_other m n both.0 in
                record { right = b.right; taken = b.taken; sets = omega arith; uses = b.uses; outcome = b.outcome }
          ];
      none = λ m past.
          let s = none_set flights n x led (record x { landed = x.landed + 1 }) m past in
          let b = old.none m s.0 in
          let o = out m in
          let nothing = same_other m n s.1 in
          omega arith;
    }

    -- a flight with a right in a worker's hands has no outcome yet, and one that a worker lands has not landed
    pub unset_while_filling : Counted flights h j f l → 1 ≤ f n → outcomes x.outcome ≡ 0
    unset_while_filling old some = let b = old.each n x led in omega arith

    pub open_while_landing : Counted flights h j f l → 1 ≤ l n → x.landed ≡ 0
    open_while_landing old some = let b = old.each n x led in omega arith
