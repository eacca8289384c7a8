-- Whether a name is UTF-8, by what reading it as text came to.
use Rattle.std.proofs.Common.{◌≡◌, ℕ, true, false, List, Result, Ok, Err, is_ok, MatchResult, refl, sym}
use Rattle.std.specs.Str.{IsUtf8, is_utf8}
use Rattle.std.proofs.lemmas.Str.{IsUtf8-from_is_utf8, is_utf8-from_IsUtf8}

refused : (name : List ℕ) → ¬ (IsUtf8 name) → false ≡ is_utf8 name
refused name none = (elim (is_utf8 name) as (λ b. is_utf8 name ≡ b → false ≡ b) [
  | true ↦ λ is. absurd (none (IsUtf8-from_is_utf8 name is))
  | false ↦ λ _. refl
]) refl

pub read_as_text : {T E : Type 0} (A : T → Type 0) (B : E → Type 0) (name : List ℕ) (r : Result T E)
    → MatchResult r (λ x. A x × IsUtf8 name) (λ e. (¬ (IsUtf8 name)) × B e) → is_ok r ≡ is_utf8 name
read_as_text A B name (Ok text) is = sym (is_utf8-from_IsUtf8 name is.1)
read_as_text A B name (Err fault) is = refused name is.0
