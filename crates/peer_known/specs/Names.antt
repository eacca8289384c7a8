-- A type that names the answers of a source.
use Rattle.std.specs.Prelude.{ℕ, List, Some}
use mathlib.Core.Logic.{∥∥₁_elim, ∥∥₁_map, ∥∥₁_prop}
use Rattle.peer_source.specs.Answers.{Answer, IsWithinLimit}

-- the named answers are those that the source may give, and no others
pub record IsNamed (answers may : ℕ → List ℕ → Answer → Type 0) : Type 0 where
  pub into : (g : ℕ) (k : List ℕ) (a : Answer) → answers g k a → may g k a
  pub out : (g : ℕ) (k : List ℕ) (a : Answer) → may g k a → answers g k a

-- the answer is a named one, and within the limit
abbrev pub AllowsNamed : (ℕ → List ℕ → Answer → Type 0) → ℕ → List ℕ → Answer → Type 0
AllowsNamed may g k a = ∥ may g k a ∥₁ × IsWithinLimit (Some a)

module _ (answers may : ℕ → List ℕ → Answer → Type 0) (named : ∥ IsNamed answers may ∥₁) where
  -- what the source may answer is allowed ..
  pub named_within : ((g : ℕ) (k : List ℕ) (a : Answer) → answers g k a → IsWithinLimit (Some a)) → (g : ℕ) (k : List ℕ) (a : Answer)
      → answers g k a → AllowsNamed may g k a
  named_within limit g k a h = (∥∥₁_map named (λ n. n.into g k a h), limit g k a h)

  -- .. and nothing else is
  pub named_alone : (g : ℕ) (k : List ℕ) (a : Answer) → AllowsNamed may g k a → ∥ answers g k a ∥₁
  named_alone g k a h = ∥∥₁_elim named ∥∥₁_prop (λ n. ∥∥₁_map h.0 (n.out g k a))
