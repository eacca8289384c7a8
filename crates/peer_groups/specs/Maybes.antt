-- A source that may be missing.
use Rattle.std.specs.Prelude.{◌≡◌, ℕ, ◌<◌, ◌⊎◌, List, Option, Some, None, codes}
use Rattle.std.proofs.Common.{inl, inr, arith, refl, subst, sym}
use Rattle.peer_source.specs.Answers.{Answer, Failed, IsWithinLimit}

-- the error of a group that a missing source has not
abbrev pub no_group : Answer
no_group = Failed (codes "no such group")

-- what the source answers, and the error where it is missing
abbrev pub AnswersMaybe : {S : Type 0} → (S → ℕ → List ℕ → Answer → Type 0) → Option S → ℕ → List ℕ → Answer → Type 0
AnswersMaybe answers None g k a = a ≡ no_group
AnswersMaybe answers (Some s) g k a = answers s g k a

-- what some source allows, and the error
abbrev pub AllowsMaybe : (ℕ → List ℕ → Answer → Type 0) → ℕ → List ℕ → Answer → Type 0
AllowsMaybe allowed g k a = allowed g k a ⊎ (a ≡ no_group)

-- how many groups there are
abbrev pub count_maybe : {S : Type 0} → (S → ℕ) → Option S → ℕ
count_maybe count None = 0
count_maybe count (Some s) = count s

-- the number of a group's name
abbrev pub number_maybe : {S : Type 0} → (S → List ℕ → Option ℕ) → Option S → List ℕ → Option ℕ
number_maybe number None name = None
number_maybe number (Some s) name = number s name

module _ {S : Type 0} (answers : S → ℕ → List ℕ → Answer → Type 0) (allowed : ℕ → List ℕ → Answer → Type 0) where
  pub maybe_within : ((s : S) (g : ℕ) (k : List ℕ) (a : Answer) → answers s g k a → allowed g k a)
      → (o : Option S) (g : ℕ) (k : List ℕ) (a : Answer) → AnswersMaybe answers o g k a → AllowsMaybe allowed g k a
  maybe_within w None g k a h = inr h
  maybe_within w (Some s) g k a h = inl (w s g k a h)

  pub maybe_limited : ((g : ℕ) (k : List ℕ) (a : Answer) → allowed g k a → IsWithinLimit (Some a))
      → (g : ℕ) (k : List ℕ) (a : Answer) → AllowsMaybe allowed g k a → IsWithinLimit (Some a)
  maybe_limited l g k a h = elim h [
    | inl x ↦ l g k a x
    | inr e ↦ subst (λ b. IsWithinLimit (Some b)) (sym e) tt
  ]

  pub maybe_answered : ((s : S) (g : ℕ) (k : List ℕ) → (a : Answer) × answers s g k a) → (o : Option S) (g : ℕ) (k : List ℕ)
      → (a : Answer) × AnswersMaybe answers o g k a
  maybe_answered w None g k = (no_group, refl)
  maybe_answered w (Some s) g k = w s g k

pub maybe_numbered : {S : Type 0} (count : S → ℕ) (number : S → List ℕ → Option ℕ)
    → ((s : S) (name : List ℕ) (i : ℕ) → number s name ≡ Some i → i < count s)
    → (o : Option S) (name : List ℕ) (i : ℕ) → number_maybe number o name ≡ Some i → i < count_maybe count o
maybe_numbered count number w None name i e = absurd (grind (arith, e))
maybe_numbered count number w (Some s) name i e = w s name i e
