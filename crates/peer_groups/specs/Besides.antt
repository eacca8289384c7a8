-- Sources beside one another: the groups of the first, and behind them those of the second.
use Rattle.std.specs.Prelude.{◌≡◌, ℕ, Bool, ◌+◌, ◌-◌, ◌<◌, ◌≤◌, ◌⊎◌, List, length, Option, Some, None, option_map}
use Rattle.std.proofs.Common.{inl, inr, arith, refl}
use Rattle.std.proofs.lemmas.Bool.{cases_lt}
use Rattle.peer_source.specs.Answers.{Answer, Failed, IsWithinLimit}
use Rattle.peer_origin.specs.Fetched.{AnswersFrom}
use Rattle.peer_origin.specs.declared.origin.Origin.{Origin}

-- what the first answers for its groups, and the second for those behind them
abbrev pub AnswersEither : ℕ → (ℕ → List ℕ → Answer → Type 0) → (ℕ → List ℕ → Answer → Type 0) → ℕ → List ℕ → Answer → Type 0
AnswersEither count first second g k a = (g < count → first g k a) × (count ≤ g → second (g - count) k a)

-- what a source answers in which these origins, asked on connections of a network, stand between a first that has so many groups and
-- a second
abbrev pub AnswersOrigins : (List ℕ → List ℕ → Bool → Type 0) → ℕ → List Origin → (ℕ → List ℕ → Answer → Type 0) → (ℕ → List ℕ → Answer → Type 0) → ℕ → List ℕ → Answer → Type 0
AnswersOrigins carried count origins first second =
    AnswersEither (count + length origins) (AnswersEither count first (AnswersFrom carried origins)) second

-- what either allows, for some group
abbrev pub AllowsEither : (ℕ → List ℕ → Answer → Type 0) → (ℕ → List ℕ → Answer → Type 0) → ℕ → List ℕ → Answer → Type 0
AllowsEither first second g k a = first g k a ⊎ ((i : ℕ) × second i k a)

-- the number of a group's name: the first's, or else the second's behind all of the first's
abbrev pub number_either : ℕ → Option ℕ → Option ℕ → Option ℕ
number_either count (Some i) second = Some i
number_either count None second = option_map (λ i. count + i) second

module _ (count : ℕ) (first second first_allowed second_allowed : ℕ → List ℕ → Answer → Type 0) where
  pub either_within : ((g : ℕ) (k : List ℕ) (a : Answer) → first g k a → first_allowed g k a)
      → ((g : ℕ) (k : List ℕ) (a : Answer) → second g k a → second_allowed g k a) → (g : ℕ) (k : List ℕ) (a : Answer)
      → AnswersEither count first second g k a → AllowsEither first_allowed second_allowed g k a
  either_within f s g k a h = elim (cases_lt g count) [
    | inl low ↦ inl (f g k a (h.0 low))
    | inr high ↦ inr (g - count, s (g - count) k a (h.1 high))
  ]

  pub either_limited : ((g : ℕ) (k : List ℕ) (a : Answer) → first_allowed g k a → IsWithinLimit (Some a))
      → ((g : ℕ) (k : List ℕ) (a : Answer) → second_allowed g k a → IsWithinLimit (Some a))
      → (g : ℕ) (k : List ℕ) (a : Answer) → AllowsEither first_allowed second_allowed g k a → IsWithinLimit (Some a)
  either_limited f s g k a h = elim h [
    | inl x ↦ f g k a x
    | inr y ↦ s y.0 k a y.1
  ]

  pub either_answered : ((g : ℕ) (k : List ℕ) → (a : Answer) × first g k a) → ((g : ℕ) (k : List ℕ) → (a : Answer) × second g k a)
      → (g : ℕ) (k : List ℕ) → (a : Answer) × AnswersEither count first second g k a
  either_answered f s g k = elim (cases_lt g count) [
    | inl low ↦ ((f g k).0, (λ l. (f g k).1, λ h. absurd (omega (arith, low, h))))
    | inr high ↦ ((s (g - count) k).0, (λ l. absurd (omega (arith, l, high)), λ h. (s (g - count) k).1))
  ]

-- each number is that of a group
pub either_numbered : (count count' : ℕ) (first second : Option ℕ)
    → ((i : ℕ) → first ≡ Some i → i < count) → ((i : ℕ) → second ≡ Some i → i < count')
    → (i : ℕ) → number_either count first second ≡ Some i → i < count + count'
either_numbered count count' (Some j) second f s i e = omega (arith, f i e)
either_numbered count count' None (Some j) f s i e = grind (arith, s j refl, e)
either_numbered count count' None None f s i e = absurd (grind (arith, e))
