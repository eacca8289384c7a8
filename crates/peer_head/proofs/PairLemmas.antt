-- How CR and LF stand in pairs, by each byte and the next.
use Rattle.std.proofs.Common.{◌≡◌, ◌≢◌, ℕ, ◌+◌, ◌<◌, ◌≤◌, Bool, true, false, ◌&&◌, eqb, List, length, get_or, refl, sym}
use Rattle.std.proofs.Common.{◌∙◌, ap, subst, arith, inl, inr, ◌↔◌, IsTrue}
use Rattle.std.proofs.lemmas.Bool.{cases_lt, cases_eq, eqb-true, eq-eqb, ne_eqb, false≢true}
use Rattle.std.proofs.Math.Bool.{beq}
use Rattle.std.specs.Cmp.{booleans_Decides}
use Rattle.std.proofs.lemmas.List.{get_or_past}
use Rattle.peer_head.specs.Heads.{IsPaired, NeighboursMatch}

-- a byte past the end is none of the two
zero_not : (n : ℕ) → 0 ≡ n → 0 < n → ⊥
zero_not n e lt = omega (arith, e, lt)

-- a byte past the end is no CR and no LF
past_not : (xs : List ℕ) (k n : ℕ) → length xs ≤ k → 0 < n → get_or xs k 0 ≢ n
past_not xs k n past some is = zero_not n (sym (get_or_past xs k 0 past) ∙ is) some

-- the byte at a place is a CR exactly where the next is an LF
abbrev pub Matches : List ℕ → ℕ → Type 0
Matches xs k = eqb (get_or xs k 0) 13 ≡ eqb (get_or xs (k + 1) 0) 10

-- one byte more is compared with the next
pub matching_more : (xs : List ℕ) (from i : ℕ) (so_far : Bool) → IsTrue so_far ↔ NeighboursMatch xs from (from + i)
    → IsTrue (so_far && beq (eqb (get_or xs (from + i) 0) 13) (eqb (get_or xs (from + i + 1) 0) 10)) ↔ NeighboursMatch xs from (from + (i + 1))
matching_more xs from i false h = (λ e. absurd (false≢true e), λ all. absurd (false≢true (h.1 (λ k low high. all k low (omega (arith, high))))))
matching_more xs from i true h =
    let cr : Bool = eqb (get_or xs (from + i) 0) 13 in
    let lf : Bool = eqb (get_or xs (from + i + 1) 0) 10 in (
      λ e k low high.
          elim (cases_lt k (from + i)) as (λ _. Matches xs k) [
            | inl below ↦ h.0 refl k low below
            | inr g ↦
                let here : from + i ≡ k = omega (arith, high, g) in
                subst (Matches xs) here ((booleans_Decides cr lf).0 e)
          ],
      λ all. (booleans_Decides cr lf).1 (all (from + i) (omega arith) (omega arith)),
    )

-- no byte is no pair
pub paired_none : (xs : List ℕ) → length xs ≡ 0 → IsPaired xs
paired_none xs n = record {
  cr = λ k is. absurd (past_not xs k 13 (omega (arith, n)) (omega arith) is);
  lf = λ k is. absurd (past_not xs (k + 1) 10 (omega (arith, n)) (omega arith) is);
  first = past_not xs 0 10 (omega (arith, n)) (omega arith);
}

-- bytes that match their neighbours stand in pairs, where no LF is the first and no CR the last
pub paired_from_matching : (xs : List ℕ) (last : ℕ) → length xs ≡ last + 1 → get_or xs 0 0 ≢ 10 → get_or xs last 0 ≢ 13
    → NeighboursMatch xs 0 last → IsPaired xs
paired_from_matching xs last n first end all = record {
  cr = λ k is.
      elim (cases_lt k last) as (λ _. get_or xs (k + 1) 0 ≡ 10) [
        | inl below ↦ eqb-true (get_or xs (k + 1) 0) 10 (sym (all k (omega arith) below) ∙ eq-eqb (get_or xs k 0) 13 is)
        | inr g ↦
            elim (cases_eq k last) as (λ _. get_or xs (k + 1) 0 ≡ 10) [
              | inl here ↦ absurd (end (ap (λ j. get_or xs j 0) (sym here) ∙ is))
              | inr other ↦ absurd (past_not xs k 13 (omega (arith, g, other, n)) (omega arith) is)
            ]
      ];
  lf = λ k is.
      elim (cases_lt k last) as (λ _. get_or xs k 0 ≡ 13) [
        | inl below ↦ eqb-true (get_or xs k 0) 13 (all k (omega arith) below ∙ eq-eqb (get_or xs (k + 1) 0) 10 is)
        | inr g ↦ absurd (past_not xs (k + 1) 10 (omega (arith, g, n)) (omega arith) is)
      ];
  first = first;
}

-- bytes in pairs match their neighbours
pub matching_from_paired : (xs : List ℕ) (from to : ℕ) → IsPaired xs → NeighboursMatch xs from to
matching_from_paired xs from to p = λ k low high.
    elim (cases_eq (get_or xs k 0) 13) as (λ _. Matches xs k) [
      | inl is ↦ eq-eqb (get_or xs k 0) 13 is ∙ sym (eq-eqb (get_or xs (k + 1) 0) 10 (p.cr k is))
      | inr other ↦ ne_eqb (get_or xs k 0) 13 other ∙ sym (ne_eqb (get_or xs (k + 1) 0) 10 (λ is. other (p.lf k is)))
    ]

-- of bytes in pairs the last is no CR
pub paired_last : (xs : List ℕ) (last : ℕ) → length xs ≡ last + 1 → IsPaired xs → get_or xs last 0 ≢ 13
paired_last xs last n p is = past_not xs (last + 1) 10 (omega (arith, n)) (omega arith) (p.cr last is)

-- where a text has bytes, an LF that is the first, or a CR that is the last, has no pair
pub judged_by_ends : (xs : List ℕ) → (IsPaired xs → ⊥) → IsTrue false ↔ IsPaired xs
judged_by_ends xs none = (λ e. absurd (false≢true e), λ p. absurd (none p))

-- a few bytes are compared at once
pub judged_once : (xs : List ℕ) (last : ℕ) (all : Bool) → length xs ≡ last + 1 → get_or xs 0 0 ≢ 10 → get_or xs last 0 ≢ 13
    → IsTrue all ↔ NeighboursMatch xs 0 (0 + last) → IsTrue all ↔ IsPaired xs
judged_once xs last all n first end h = (
  λ e. paired_from_matching xs last n first end (λ k low high. h.0 e k low (omega (arith, high))),
  λ p. h.1 (matching_from_paired xs 0 (0 + last) p),
)

-- many are compared from the front, and then the last ones
pub judged_twice : (xs : List ℕ) (last whole from step : ℕ) (front back : Bool) → length xs ≡ last + 1 → get_or xs 0 0 ≢ 10
    → get_or xs last 0 ≢ 13 → from + step ≡ last → from ≤ whole → IsTrue front ↔ NeighboursMatch xs 0 (0 + whole)
    → IsTrue back ↔ NeighboursMatch xs from (from + step) → IsTrue (front && back) ↔ IsPaired xs
judged_twice xs last whole from step false back n first end sum reach f b =
    (λ e. absurd (false≢true e), λ p. f.1 (matching_from_paired xs 0 (0 + whole) p))
judged_twice xs last whole from step true back n first end sum reach f b = (
  λ e. paired_from_matching xs last n first end (λ k low high.
      elim (cases_lt k whole) as (λ _. Matches xs k) [
        | inl below ↦ f.0 refl k low (omega (arith, below))
        | inr g ↦ b.0 e k (omega (arith, g, reach)) (omega (arith, high, sum))
      ]),
  λ p. b.1 (matching_from_paired xs from (from + step) p),
)
