-- Each text begins with a block, or is too long, or unfinished.
use Rattle.std.proofs.Common.{◌≡◌, ℕ, zero, suc, ◌+◌, ◌<◌, ◌≤◌, inl, inr, List, [], ◌∷◌, length, take, drop, get_or, slice_range}
use Rattle.std.proofs.Common.{refl, sym, ◌∙◌, ap, arith, length-drop, get_or-drop}
use Rattle.std.proofs.lemmas.Bool.{cases_lt}
use Rattle.memchr.specs.Find.{OccursAt, occurs_at, NoneBefore, Nowhere}
use Rattle.memchr.proofs.lemmas.MatchLemmas.{occurs_at-true, OccursAt-true}
use Rattle.peer_head.specs.Blocks.{HasBlock, IsTooLong, IsUnfinished, IsPastPairs, LIMIT, pair, blank_line}
use Rattle.peer_head.proofs.BlockLemmas.{PairsBefore, one_pair_more, found_block, no_blank_line, far_blank_line}
use Rattle.peer_head.proofs.Deciding.{Decided, decided_same, decided_test, first_below}

-- the two bytes of a pair
record IsPairAt (t : List ℕ) (at : ℕ) : Type 0 where
  inside : at + 2 ≤ length t
  cr : get_or t at 0 ≡ 13
  lf : get_or t (at + 1) 0 ≡ 10

-- a pair at the front
front_pair : (u : List ℕ) → take 2 u ≡ pair → IsPairAt u 0
front_pair [] e = cc
front_pair (a ∷ []) e = cc
front_pair (a ∷ b ∷ u) e = record { inside = omega arith; cr = cc; lf = cc }

-- a pair at a place
pair_at : (t : List ℕ) (at : ℕ) → take 2 (drop at t) ≡ pair → IsPairAt t at
pair_at t at e =
    let h = front_pair (drop at t) e in
    let start : at + 0 ≡ at = omega arith in
    record {
      inside = omega (arith, h.inside, length-drop at t);
      cr = ap (λ k. get_or t k 0) (sym start) ∙ sym (get_or-drop at t 0 0) ∙ h.cr;
      lf = sym (get_or-drop at t 1 0) ∙ h.lf;
    }

-- where the leading pairs end, by at most n of them more
pairs_end : (t : List ℕ) (n at : ℕ) → length t < at + n → PairsBefore t at → (s : ℕ) × IsPastPairs t s
pairs_end t zero at short h = absurd (omega (arith, short, h.within))
pairs_end t (suc n) at short h =
    elim (decided_same (take 2 (drop at t)) pair) as (λ _. (s : ℕ) × IsPastPairs t s) [
      | inl e ↦
          let p = pair_at t at e in
          pairs_end t n (at + 2) (omega (arith, short)) (one_pair_more t at h p.inside p.cr p.lf)
      | inr none ↦ (at, record { count = h.count; at_is = h.at_is; within = h.within; cut = h.cut; no_pair = none })
    ]

-- where the leading pairs of a text end
past_pairs : (t : List ℕ) → (s : ℕ) × IsPastPairs t s
past_pairs t = pairs_end t (length t + 1) 0 (omega arith) (record { count = 0; at_is = refl; within = omega arith; cut = refl })

-- a blank line stands at a place
decided_blank : (u : List ℕ) (k : ℕ) → Decided (OccursAt u blank_line k)
decided_blank u k = decided_test (occurs_at u blank_line k) (OccursAt-true u blank_line k) (occurs_at-true u blank_line k)

-- a text begins with a block, or more bytes bring none, or they may
pub data BlockOf (t : List ℕ) : Type 0 where
  is_block : HasBlock t → BlockOf t
  is_too_long : IsTooLong t → BlockOf t
  is_unfinished : IsUnfinished t → BlockOf t

-- a text with a blank line
blank_found : (t : List ℕ) (s k : ℕ) → IsPastPairs t s → NoneBefore (OccursAt (drop s t) blank_line) 0 (length (drop s t) + 1) k
    → OccursAt (drop s t) blank_line k → BlockOf t
blank_found t s k h none here =
    elim (cases_lt LIMIT (s + k + 4)) as (λ _. BlockOf t) [
      | inl far ↦ is_too_long (record {
        long = omega (arith, far, here.fits, length-drop s t, h.within);
        none = far_blank_line t s k h none far;
      })
      | inr near ↦ is_block (slice_range t s (s + k + 4), (drop (s + k + 4) t, (found_block t s k h none here near).begins))
    ]

-- a text with no blank line
blank_missing : (t : List ℕ) (s : ℕ) → IsPastPairs t s → Nowhere (OccursAt (drop s t) blank_line) 0 (length (drop s t) + 1) → BlockOf t
blank_missing t s h none =
    elim (cases_lt (length t) LIMIT) as (λ _. BlockOf t) [
      | inl short ↦ is_unfinished (record { short = short; none = no_blank_line t s h none })
      | inr long ↦ is_too_long (record { long = long; none = no_blank_line t s h none })
    ]

-- what each text begins with
pub block_of : (t : List ℕ) → BlockOf t
block_of t =
    let past = past_pairs t in
    let u = drop past.0 t in
    elim (first_below (OccursAt u blank_line) (decided_blank u) (length u + 1)) as (λ _. BlockOf t) [
      | inl found ↦ blank_found t past.0 found.0 past.1 found.1.0 found.1.1
      | inr none ↦ blank_missing t past.0 past.1 none
    ]
