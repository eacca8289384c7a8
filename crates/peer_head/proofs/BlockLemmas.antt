-- Laws of the first block of a text.
use Rattle.std.proofs.Common.{◌≡◌, ◌≢◌, ℕ, zero, suc, ◌+◌, ◌*◌, ◌-◌, ◌<◌, ◌≤◌, List, ◌∷◌, ◌++◌, length, take, drop, get_or, slice_range}
use Rattle.std.proofs.Common.{refl, sym, ◌∙◌, ap, arith, append_assoc, length-append, length-drop, drop-cons}
use Rattle.std.proofs.Math.Seq.{drop-append_seam, take-add}
use Rattle.std.proofs.lemmas.List.{take_rest, take-append-le, take-take, drop-take, length-take-le}
use Rattle.std.proofs.lemmas.List.Folds.{drop_split}
use Rattle.memchr.specs.Find.{OccursAt, NoneBefore, Nowhere}
use Rattle.memchr.proofs.lemmas.MatchLemmas.{OccursAt-part, OccursAt-from_part}
use Rattle.peer_head.specs.Blocks.{Begins, LIMIT, pairs, pair, blank_line, HasNoBlock, IsPastPairs}
use Rattle.peer_head.specs.Cuts.{IsBlockAt}

-- the bytes up to `at` are pairs
pub record PairsBefore (t : List ℕ) (at : ℕ) : Type 0 where
  pub count : ℕ
  pub at_is : at ≡ 2 * count
  pub within : at ≤ length t
  pub cut : t ≡ pairs count ++ drop at t

-- the first of several pairs may be read as their last
pairs-snoc : (n : ℕ) (x : List ℕ) → pairs n ++ (13 ∷ 10 ∷ x) ≡ pairs (suc n) ++ x
pairs-snoc zero x = refl
pairs-snoc (suc n) x = ap (λ v. 13 ∷ 10 ∷ v) (pairs-snoc n x)

-- one pair more
pub one_pair_more : (t : List ℕ) (at : ℕ) → PairsBefore t at → at + 2 ≤ length t → get_or t at 0 ≡ 13 → get_or t (at + 1) 0 ≡ 10
    → PairsBefore t (at + 2)
one_pair_more t at h le first second =
    let up : suc at ≡ at + 1 = omega arith in
    let up' : suc (at + 1) ≡ at + 2 = omega arith in
    let here : drop at t ≡ 13 ∷ 10 ∷ drop (at + 2) t =
    drop-cons t at 0 (omega (arith, le))
    ∙ ap (λ b. b ∷ drop (suc at) t) first
    ∙ ap (λ k. 13 ∷ drop k t) up
    ∙ ap (λ v. 13 ∷ v) (drop-cons t (at + 1) 0 (omega (arith, le)) ∙ ap (λ b. b ∷ drop (suc (at + 1)) t) second
    ∙ ap (λ k. 10 ∷ drop k t) up')
    in
    record {
      count = suc h.count;
      at_is = omega (arith, h.at_is);
      within = le;
      cut = h.cut ∙ ap (λ v. pairs h.count ++ v) here ∙ pairs-snoc h.count (drop (at + 2) t);
    }

-- numbers of pairs before a block that doesn't begin with one
pub pairs_same : (m n : ℕ) (a b : List ℕ) → take 2 a ≢ pair → take 2 b ≢ pair → pairs m ++ a ≡ pairs n ++ b → (m ≡ n) × (a ≡ b)
pairs_same zero zero a b p q e = (refl, e)
pairs_same zero (suc n) a b p q e = absurd (p (ap (take 2) e))
pairs_same (suc m) zero a b p q e = absurd (q (ap (take 2) (sym e)))
pairs_same (suc m) (suc n) a b p q e =
    let tail : pairs m ++ a ≡ pairs n ++ b = ap (drop 2) e in
    let r = pairs_same m n a b p q tail in
    (ap suc r.0, r.1)

-- the blank line at the end of a block
pub blank_at : (front x : List ℕ) → take 4 (drop (length front) ((front ++ blank_line) ++ x)) ≡ blank_line
blank_at front x =
    ap (λ v. take 4 (drop (length front) v)) (append_assoc front blank_line x) ∙ ap (take 4) (drop-append_seam front (blank_line ++ x))

-- what begins with a block doesn't begin with a pair
pub starts : (c v f : List ℕ) → c ≡ f ++ blank_line → take 2 c ≢ pair → take 2 (c ++ v) ≢ pair
starts c v f e n h = n (sym (take-append-le 2 c v (omega (arith, ap length e, length-append f blank_line))) ∙ h)

-- the block that a search from the end of the pairs finds
pub found_block : (t : List ℕ) (s k : ℕ) → IsPastPairs t s → NoneBefore (OccursAt (drop s t) blank_line) 0 (length (drop s t) + 1) k
    → OccursAt (drop s t) blank_line k → s + k + 4 ≤ LIMIT → IsBlockAt t s (s + k + 4)
found_block t s k h none here fits =
    let u = drop s t in
    let e = s + k + 4 in
    let inside : k + 4 ≤ length u = here.fits in
    let size : e - s ≡ k + 4 = omega arith in
    let block : slice_range t s e ≡ take (k + 4) u = ap (λ n. take n u) size in
    let front : take (k + 4) u ≡ take k u ++ blank_line = take-add k 4 u ∙ ap (λ v. take k u ++ v) (OccursAt-part u blank_line k here) in
    let short : length (take k u) ≡ k = length-take-le k u (omega (arith, inside)) in
    record {
      ordered = omega arith;
      within = omega (arith, inside, length-drop s t, h.within);
      begins = record {
        skipped = h.count;
        front = take k u;
        cut = h.cut ∙ ap (λ v. pairs h.count ++ v) (drop_split t s e (omega arith));
        no_pair = λ p. h.no_pair (sym (take-take 2 (k + 4) u (omega arith)) ∙ ap (take 2) (sym block) ∙ p);
        ends = block ∙ front;
        first = λ i lt p.
            let more : i + (k + 4 - i) ≡ k + 4 = omega (arith, lt, short) in
            let part : take 4 (drop i u) ≡ blank_line =
            sym (take-take 4 (k + 4 - i) (drop i u) (omega (arith, lt, short)))
            ∙ ap (take 4) (sym (drop-take i (k + 4 - i) u) ∙ ap (λ n. drop i (take n u)) more ∙ ap (drop i) (sym block)) ∙ p
            in
            none.before i (omega arith) (omega (arith, lt, short))
            (OccursAt-from_part u blank_line i (omega (arith, lt, short, inside)) part);
        fits = omega (arith, h.at_is, fits, ap length block, length-take-le (k + 4) u inside);
      };
    }

-- where a block lies, if there is one
pub record LiesAt (t : List ℕ) (s : ℕ) : Type 0 where
  pub k : ℕ
  pub occurs : OccursAt (drop s t) blank_line k
  pub fits : s + k + 4 ≤ LIMIT

-- the block of a text lies behind the pairs
pub lies_at : (t b r : List ℕ) (s : ℕ) → IsPastPairs t s → Begins t b r → LiesAt t s
lies_at t b r s h x =
    let same = pairs_same x.skipped h.count (b ++ r) (drop s t) (starts b r x.front x.ends x.no_pair) h.no_pair (sym x.cut ∙ h.cut) in
    let whole : (x.front ++ blank_line) ++ r ≡ drop s t = ap (λ v. v ++ r) (sym x.ends) ∙ same.1 in
    let k = length x.front in
    let long : length b ≡ k + 4 = ap length x.ends ∙ length-append x.front blank_line in
    record {
      k = k;
      occurs = OccursAt-from_part (drop s t) blank_line k (omega (arith, ap length same.1, length-append b r, long))
          (ap (λ v. take 4 (drop k v)) (sym whole) ∙ blank_at x.front r);
      fits = omega (arith, x.fits, long, same.0, h.at_is);
    }

-- no blank line, so no block
pub no_blank_line : (t : List ℕ) (s : ℕ) → IsPastPairs t s → Nowhere (OccursAt (drop s t) blank_line) 0 (length (drop s t) + 1)
    → HasNoBlock t
no_blank_line t s h none b r x =
    let l = lies_at t b r s h x in
    none l.k (omega arith) (omega (arith, l.occurs.fits)) l.occurs

-- the same of the text behind the pairs as it is searched
pub no_blank_rest : (t : List ℕ) (s : ℕ) → IsPastPairs t s
    → Nowhere (OccursAt (take (length t - s) (drop s t)) blank_line) 0 (length (take (length t - s) (drop s t)) + 1) → HasNoBlock t
no_blank_rest t s h none = no_blank_line t s h (rw (take_rest t s) at none)

-- the first blank line is too far away
pub far_blank_line : (t : List ℕ) (s k : ℕ) → IsPastPairs t s → NoneBefore (OccursAt (drop s t) blank_line) 0 (length (drop s t) + 1) k
    → LIMIT < s + k + 4 → HasNoBlock t
far_blank_line t s k h none far b r x =
    let l = lies_at t b r s h x in
    none.before l.k (omega arith) (omega (arith, l.fits, far)) l.occurs
