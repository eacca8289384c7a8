-- What `memchr` answers, in the words of std on the first element that passes a test.
use Rattle.std.proofs.Common.{◌≡◌, ℕ, ◌+◌, ◌<◌, Bool, true, false, suc, List, [], ◌∷◌, length, get_or, take, drop, All, Some, None, add-one}
use Rattle.std.proofs.Common.{ap, ◌∙◌, arith, ⊎_elim, drop-cons, length-take, le_refl, take_all}
use Rattle.std.specs.List.{before_first, after_first, position_or_len, list_any}
use Rattle.std.proofs.lemmas.Bool.{cases_Bool, eqb-true}
use Rattle.std.proofs.lemmas.List.{drop_all, get_or-take}
use Rattle.std.proofs.lemmas.List.Elements.{All-from_get_or}
use Rattle.std.proofs.lemmas.List.Sums.{position_or_len_is}
use Rattle.std.proofs.lemmas.List.Folds.{list_any_at, list_any_none}
use Rattle.memchr.specs.Find.{IsFirstByte, is_byte}

-- what does not pass fails
pub false_from_not : (b : Bool) → ¬ (b ≡ true) → b ≡ false
false_from_not b fails = ⊎_elim (λ passes. absurd (fails passes)) (λ e. e) (cases_Bool b)

module _ (p : ℕ → Bool) (xs : List ℕ) where
  -- a search that found an element gave the first place
  pub position_or_len-found : (k : ℕ) → IsFirstByte p xs (Some k) → position_or_len p xs ≡ k
  position_or_len-found k found =
      position_or_len_is p xs k 0 (omega (arith, found.0.high))
      (λ j below. false_from_not (p (get_or xs j 0)) (found.0.before j (omega arith) below)) (λ _. found.1)

  -- a search that found an element shows that one passes
  pub list_any-found : (k : ℕ) → IsFirstByte p xs (Some k) → list_any p xs ≡ true
  list_any-found k found = list_any_at p xs k 0 found.0.high found.1

  -- each element before the place found fails
  pub All-before_found : (k : ℕ) → IsFirstByte p xs (Some k) → All (λ x. p x ≡ false) (take k xs)
  All-before_found k found =
      All-from_get_or (λ x. p x ≡ false) (take k xs) 0
      (λ i inside.
      let below : i < k = omega (arith, length-take k xs) in
      rw (get_or-take k xs i 0 below) (false_from_not (p (get_or xs i 0)) (found.0.before i (omega arith) below)))

  -- a search that found nothing has seen each element fail
  pub All-absent : IsFirstByte p xs None → All (λ x. p x ≡ false) xs
  All-absent absent =
      All-from_get_or (λ x. p x ≡ false) xs 0 (λ i inside. false_from_not (p (get_or xs i 0)) (absent i (omega arith) inside))

  -- no element passes
  pub list_any-absent : IsFirstByte p xs None → list_any p xs ≡ false
  list_any-absent absent = list_any_none p xs (All-absent absent)

  -- the first place that passes is the end
  pub position_or_len-absent : IsFirstByte p xs None → position_or_len p xs ≡ length xs
  position_or_len-absent absent =
      position_or_len_is p xs (length xs) 0 (le_refl (length xs))
      (λ j below. false_from_not (p (get_or xs j 0)) (absent j (omega arith) below)) (λ l. absurd (omega arith))

  -- all stands before it
  pub before_first-absent : IsFirstByte p xs None → before_first p xs ≡ xs
  before_first-absent absent = ap (λ n. take n xs) (position_or_len-absent absent) ∙ take_all (length xs) xs (le_refl (length xs))

  -- nothing stands after it
  pub after_first-absent : IsFirstByte p xs None → after_first p xs ≡ []
  after_first-absent absent = ap (λ n. drop (n + 1) xs) (position_or_len-absent absent) ∙ drop_all (length xs + 1) xs (omega arith)

-- what stands from the first such byte on is that byte, and what stands after it
pub cons-after_first-found : (a : ℕ) (xs : List ℕ) (k : ℕ) → IsFirstByte (is_byte a) xs (Some k)
    → drop k xs ≡ a ∷ after_first (is_byte a) xs
cons-after_first-found a xs k found =
    let first = position_or_len-found (is_byte a) xs k found in
    rw (first, add-one) (drop-cons xs k 0 found.0.high ∙ ap (λ x. x ∷ drop (suc k) xs) (eqb-true _ a found.1))
