-- What a list has at an index after a write or a push, and a sum over it.
use Rattle.std.proofs.Common.{◌≡◌, ◌≢◌, ℕ, zero, suc, ◌+◌, List, [], ◌∷◌, ◌++◌, length, get_or, Some, refl, ap, sym, subst, ◌⊎◌, inl, inr, arith}
use Rattle.std.proofs.Math.ListN.{set}
use Rattle.std.specs.List.{slice_get, sum_by, All}
use Rattle.std.proofs.lemmas.Option.{none-some, same_Some, slice_get_within, get_or_from_slice_get}
use Rattle.std.proofs.lemmas.List.Sums.{sum_by-set, sum_by-append, sum_by-cons}
use Rattle.std.proofs.lemmas.List.Elements.{All-get_or}

-- after a write: the index written, with the new element, or another one, as before
pub at_set : {X : Type 0} (xs : List X) (m k : ℕ) (new x : X) → slice_get (set xs m new) k ≡ Some x → ((k ≡ m) × (x ≡ new)) ⊎ ((k ≢ m) × (slice_get xs k ≡ Some x))
at_set [] m k new x is = absurd (none-some x is)
at_set (y ∷ ys) zero zero new x is = inl (refl, sym (same_Some new x is))
at_set (y ∷ ys) zero (suc k) new x is = inr (λ (e : suc k ≡ zero). omega arith, is)
at_set (y ∷ ys) (suc m) zero new x is = inr (λ (e : zero ≡ suc m). omega arith, is)
at_set (y ∷ ys) (suc m) (suc k) new x is =
    elim (at_set ys m k new x is) [
      | inl both ↦ inl (ap suc both.0, both.1)
      | inr both ↦ inr (λ (e : suc k ≡ suc m). both.0 (omega arith), both.1)
    ]

-- a write is read again
pub set_here : {X : Type 0} (xs : List X) (m : ℕ) (old new : X) → slice_get xs m ≡ Some old → slice_get (set xs m new) m ≡ Some new
set_here [] m old new is = absurd (none-some old is)
set_here (y ∷ ys) zero old new is = refl
set_here (y ∷ ys) (suc m) old new is = set_here ys m old new is

-- a write leaves every other index
pub set_else : {X : Type 0} (xs : List X) (m k : ℕ) (new : X) → k ≢ m → slice_get (set xs m new) k ≡ slice_get xs k
set_else [] m k new ne = refl
set_else (y ∷ ys) zero zero new ne = absurd (ne refl)
set_else (y ∷ ys) zero (suc k) new ne = refl
set_else (y ∷ ys) (suc m) zero new ne = refl
set_else (y ∷ ys) (suc m) (suc k) new ne = set_else ys m k new (λ e. ne (ap suc e))

-- after a push: the last index, with the element pushed, or an earlier one, as before
pub at_push : {X : Type 0} (xs : List X) (y x : X) (k : ℕ) → slice_get (xs ++ y ∷ []) k ≡ Some x → ((k ≡ length xs) × (x ≡ y)) ⊎ (slice_get xs k ≡ Some x)
at_push [] y x zero is = inl (refl, sym (same_Some y x is))
at_push [] y x (suc k) is = absurd (none-some x is)
at_push (z ∷ zs) y x zero is = inr is
at_push (z ∷ zs) y x (suc k) is =
    elim (at_push zs y x k is) [
      | inl both ↦ inl (ap suc both.0, both.1)
      | inr there ↦ inr there
    ]

-- what was there is there after a push
pub push_keeps : {X : Type 0} (xs ys : List X) (x : X) (k : ℕ) → slice_get xs k ≡ Some x → slice_get (xs ++ ys) k ≡ Some x
push_keeps [] ys x k is = absurd (none-some x is)
push_keeps (z ∷ zs) ys x zero is = is
push_keeps (z ∷ zs) ys x (suc k) is = push_keeps zs ys x k is

-- the element pushed is at the end
pub push_last : {X : Type 0} (xs : List X) (y : X) → slice_get (xs ++ y ∷ []) (length xs) ≡ Some y
push_last [] y = refl
push_last (z ∷ zs) y = push_last zs y

-- what holds of all holds at an index
pub All_at : {X : Type 0} (P : X → Type 0) (xs : List X) (k : ℕ) (x : X) → All P xs → slice_get xs k ≡ Some x → P x
All_at P xs k x all is =
    let holds : P (get_or xs k x) = All-get_or P xs k x (slice_get_within xs k x is) all in
    let same : get_or xs k x ≡ x = get_or_from_slice_get xs k x x is in
    subst P same holds

-- a write moves a sum by the difference of the two terms
pub sum_set : {X : Type 0} (f : X → ℕ) (xs : List X) (m : ℕ) (old new : X) → slice_get xs m ≡ Some old → sum_by f (set xs m new) + f old ≡ sum_by f xs + f new
sum_set {X = X} f xs m old new is =
    let same : get_or xs m old ≡ old = get_or_from_slice_get xs m old old is in
    let P : X → Type 0 = λ y. sum_by f (set xs m new) + f y ≡ sum_by f xs + f new in
    subst P same (sum_by-set f xs m new old (slice_get_within xs m old is))

-- a push adds a term
pub sum_push : {X : Type 0} (f : X → ℕ) (xs : List X) (y : X) → sum_by f (xs ++ y ∷ []) ≡ sum_by f xs + f y
sum_push f xs y = omega (arith, sum_by-append f xs (y ∷ []), sum_by-cons f y [])
