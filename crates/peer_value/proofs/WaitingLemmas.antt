-- What a line holds after another one was written in its place.
use Rattle.std.proofs.Common.{◌≡◌, ◌≢◌, ℕ, zero, suc, List, [], ◌∷◌, ◌++◌, Some, option_map, unwrap_or, slice_get, slice_set, refl, ap, sym, ◌∙◌}
use Rattle.peer_value.specs.Waitings.{line_in}

module _ {D X : Type 0} (items : D → List X) where
  read_line : (lines : List D) (n : ℕ) (old : D) → slice_get lines n ≡ Some old → line_in items lines n ≡ items old
  read_line lines n old is = ap (λ found. unwrap_or (option_map items found) []) is

  written_line : (lines : List D) (n : ℕ) (old new : D) → slice_get lines n ≡ Some old → line_in items (slice_set lines n new) n ≡ items new
  written_line [] n old new is = absurd (let e = is in cc)
  written_line (line ∷ lines) zero old new is = refl
  written_line (line ∷ lines) (suc n) old new is = written_line lines n old new is

  -- every other line is the same
  pub other_line : (lines : List D) (n m : ℕ) (new : D) → m ≢ n → line_in items (slice_set lines n new) m ≡ line_in items lines m
  other_line [] n m new differ = refl
  other_line (line ∷ lines) zero zero new differ = absurd (differ refl)
  other_line (line ∷ lines) zero (suc m) new differ = refl
  other_line (line ∷ lines) (suc n) zero new differ = refl
  other_line (line ∷ lines) (suc n) (suc m) new differ = other_line lines n m new (λ same. differ (ap suc same))

  -- a line with the same values was written in its place
  pub same_line : (lines : List D) (n : ℕ) (old new : D) → slice_get lines n ≡ Some old → items new ≡ items old → line_in items (slice_set lines n new) n ≡ line_in items lines n
  same_line lines n old new is same = written_line lines n old new is ∙ same ∙ sym (read_line lines n old is)

  -- the first value was taken out of the line
  pub popped_line : (lines : List D) (n : ℕ) (old new : D) (x : X) → slice_get lines n ≡ Some old → items old ≡ x ∷ items new → line_in items lines n ≡ x ∷ line_in items (slice_set lines n new) n
  popped_line lines n old new x is first =
      read_line lines n old is ∙ first ∙ ap (λ rest. x ∷ rest) (sym (written_line lines n old new is))

  -- a value was put behind those of the line
  pub pushed_line : (lines : List D) (n : ℕ) (old new : D) (x : X) (before : List X) → slice_get lines n ≡ Some old → line_in items lines n ≡ before → items new ≡ items old ++ x ∷ [] → line_in items (slice_set lines n new) n ≡ before ++ x ∷ []
  pushed_line lines n old new x before is was last =
      written_line lines n old new is ∙ last ∙ ap (λ xs. xs ++ x ∷ []) (sym (read_line lines n old is) ∙ was)
