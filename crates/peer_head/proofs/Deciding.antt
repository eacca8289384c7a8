-- Facts that are decided: each holds, or it doesn't.
use Rattle.std.proofs.Common.{◌≡◌, ◌≢◌, ℕ, zero, suc, ◌+◌, ◌≤◌, ◌⊎◌, inl, inr, Bool, true, eqb, List, [], ◌∷◌}
use Rattle.std.proofs.Common.{length, get_or, All, bytes_eq, refl, sym, ◌∙◌, subst, arith}
use Rattle.std.proofs.lemmas.Bool.{cases_Bool, cases_lt, cases_eq, false≢true}
use Rattle.std.proofs.lemmas.List.Elements.{All-nil, All-cons, All-head, All-tail}
use Rattle.std.proofs.lemmas.Slice.Eq.{bytes_eq-Decides}
use Rattle.memchr.specs.Find.{NoneBefore, Nowhere}
use Rattle.std.proofs.Math.Bool.{beq}
use Rattle.std.specs.Cmp.{booleans_Decides}
use Rattle.peer_head.specs.Heads.{IsPaired, NeighboursMatch, IsVisible}
use Rattle.peer_head.proofs.PairLemmas.{Matches, paired_none, paired_from_matching, matching_from_paired, paired_last}

-- the fact holds, or it doesn't
abbrev pub Decided : Type 0 → Type 0
Decided P = P ⊎ (P → ⊥)

-- two facts that follow from one another
pub decided_by : {P Q : Type 0} → (P → Q) → (Q → P) → Decided P → Decided Q
decided_by to from (inl p) = inl (to p)
decided_by to from (inr none) = inr (λ q. none (from q))

-- both of two facts
pub decided_both : {P Q : Type 0} → Decided P → Decided Q → Decided (P × Q)
decided_both (inl p) (inl q) = inl (p, q)
decided_both (inl p) (inr none) = inr (λ x. none x.1)
decided_both (inr none) d = inr (λ x. none x.0)

-- that a fact does not hold
pub decided_not : {P : Type 0} → Decided P → Decided (P → ⊥)
decided_not (inl p) = inr (λ none. none p)
decided_not (inr none) = inl none

-- what a test tells
pub decided_test : {P : Type 0} (b : Bool) → (b ≡ true → P) → (P → b ≡ true) → Decided P
decided_test b to from =
    elim (cases_Bool b) [
      | inl holds ↦ inl (to holds)
      | inr fails ↦ inr (λ p. false≢true (sym fails ∙ from p))
    ]

-- lists of numbers are the same
pub decided_same : (xs ys : List ℕ) → Decided (xs ≡ ys)
decided_same xs ys = decided_test (bytes_eq xs ys) (bytes_eq-Decides xs ys).0 (bytes_eq-Decides xs ys).1

-- one fact of each number
pub decided_all : (P : ℕ → Type 0) → ((x : ℕ) → Decided (P x)) → (xs : List ℕ) → Decided (All P xs)
decided_all P each [] = inl (All-nil P)
decided_all P each (x ∷ xs) =
    decided_by {P = P x × All P xs} (λ h. All-cons P x xs h.0 h.1) (λ h. (All-head P x xs h, All-tail P x xs h))
    (decided_both (each x) (decided_all P each xs))

-- a number is another
decided_eq : (m n : ℕ) → Decided (m ≡ n)
decided_eq m n =
    elim (cases_eq m n) [
      | inl same ↦ inl same
      | inr other ↦ inr other
    ]

-- a number is at most another
decided_le : (m n : ℕ) → Decided (m ≤ n)
decided_le m n =
    elim (cases_lt n m) [
      | inl lt ↦ inr (λ le. omega (arith, lt, le))
      | inr le ↦ inl le
    ]

-- a byte is visible
pub decided_visible : (b : ℕ) → Decided (IsVisible b)
decided_visible b = decided_both (decided_le 33 b) (decided_le b 126)

-- the first place below n where a fact holds
pub first_below : (P : ℕ → Type 0) → ((k : ℕ) → Decided (P k)) → (n : ℕ) → ((k : ℕ) × (NoneBefore P 0 n k × P k)) ⊎ Nowhere P 0 n
first_below P each zero = inr (λ k low high p. omega (arith, high))
first_below P each (suc n) =
    elim (first_below P each n) as (λ _. ((k : ℕ) × (NoneBefore P 0 (suc n) k × P k)) ⊎ Nowhere P 0 (suc n)) [
      | inl found ↦
          inl (found.0, (record { low = found.1.0.low; high = omega (arith, found.1.0.high); before = found.1.0.before }, found.1.1))
      | inr none ↦
          elim (each n) as (λ _. ((k : ℕ) × (NoneBefore P 0 (suc n) k × P k)) ⊎ Nowhere P 0 (suc n)) [
            | inl here ↦ inl (n, (record { low = omega arith; high = omega arith; before = none }, here))
            | inr other ↦ inr λ k low high p.
                elim (cases_eq k n) as (λ _. ⊥) [
                  | inl same ↦ other (subst P same p)
                  | inr below ↦ none k low (omega (arith, high, below)) p
                ]
          ]
    ]

-- the byte at a place is a CR exactly where the next is an LF
decided_match : (xs : List ℕ) (k : ℕ) → Decided (Matches xs k)
decided_match xs k =
    let tests = booleans_Decides (eqb (get_or xs k 0) 13) (eqb (get_or xs (k + 1) 0) 10) in
    decided_test (beq (eqb (get_or xs k 0) 13) (eqb (get_or xs (k + 1) 0) 10)) tests.0 tests.1

-- so is each byte up to a place
decided_matching : (xs : List ℕ) (n : ℕ) → Decided (NeighboursMatch xs 0 n)
decided_matching xs n =
    elim (first_below (λ k. Matches xs k → ⊥) (λ k. decided_not (decided_match xs k)) n) as (λ _. Decided (NeighboursMatch xs 0 n)) [
      | inl found ↦ inr (λ all. found.1.1 (all found.0 found.1.0.low found.1.0.high))
      | inr none ↦ inl λ k low high.
          elim (decided_match xs k) as (λ _. Matches xs k) [
            | inl here ↦ here
            | inr other ↦ absurd (none k low high other)
          ]
    ]

-- CR and LF stand in pairs
pub decided_paired : (xs : List ℕ) → Decided (IsPaired xs)
decided_paired [] = inl (paired_none [] refl)
decided_paired (x ∷ xs) =
    decided_by {P = (x ≢ 10) × ((get_or (x ∷ xs) (length xs) 0 ≢ 13) × NeighboursMatch (x ∷ xs) 0 (length xs))}
    (λ h. paired_from_matching (x ∷ xs) (length xs) (omega arith) h.0 h.1.0 h.1.1)
    (λ p. (p.first, (paired_last (x ∷ xs) (length xs) (omega arith) p, matching_from_paired (x ∷ xs) 0 (length xs) p)))
    (decided_both (decided_not (decided_eq x 10))
    (decided_both (decided_not (decided_eq (get_or (x ∷ xs) (length xs) 0) 13)) (decided_matching (x ∷ xs) (length xs))))
