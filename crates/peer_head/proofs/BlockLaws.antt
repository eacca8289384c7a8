-- A text begins with at most one block, and more bytes keep it.
use Rattle.std.proofs.Common.{◌≡◌, ◌≢◌, ℕ, zero, suc, ◌+◌, ◌*◌, ◌<◌, ◌≤◌, List, [], ◌∷◌, ◌++◌, length, take, drop, refl, sym, ◌∙◌}
use Rattle.std.proofs.Common.{ap, subst, arith, inl, inr, append_assoc, length-append, length-drop}
use Rattle.std.proofs.Math.Seq.{take-append_seam}
use Rattle.std.proofs.lemmas.List.{take-append-le, drop-append-le, take-append-drop}
use Rattle.std.proofs.lemmas.Bool.{cases_lt}
use Rattle.peer_head.specs.Blocks.{Begins, LIMIT, pairs, blank_line}
use Rattle.peer_head.specs.Laws.{BeginsOnce, KeepsBlock, LeavesLess, StaysTooLong}
use Rattle.peer_head.proofs.BlockLemmas.{pairs_same, starts, blank_at}

-- a place of a block reads alike with what follows the block
inside : (block rest : List ℕ) (i : ℕ) → i + 4 ≤ length block → take 4 (drop i (block ++ rest)) ≡ take 4 (drop i block)
inside block rest i h =
    ap (take 4) (drop-append-le i block rest (omega arith)) ∙ take-append-le 4 (drop i block) rest (omega (arith, length-drop i block))

-- the first blank line of one block is not before that of another
not_before : (front front' rest rest' : List ℕ) → (front ++ blank_line) ++ rest ≡ (front' ++ blank_line) ++ rest'
    → ((i : ℕ) → i < length front' → take 4 (drop i (front' ++ blank_line)) ≢ blank_line) → length front < length front' → ⊥
not_before front front' rest rest' e first lt =
    first (length front) lt
    (sym (inside (front' ++ blank_line) rest' (length front) (omega (arith, length-append front' blank_line, lt)))
    ∙ ap (λ v. take 4 (drop (length front) v)) (sym e) ∙ blank_at front rest)

-- fronts of one length are the same
fronts_same : (front front' rest rest' : List ℕ) → (front ++ blank_line) ++ rest ≡ (front' ++ blank_line) ++ rest'
    → length front ≡ length front' → (front ≡ front') × (rest ≡ rest')
fronts_same [] [] rest rest' e h = (refl, ap (drop 4) e)
fronts_same [] (b ∷ front') rest rest' e h = absurd (omega (arith, h))
fronts_same (a ∷ front) [] rest rest' e h = absurd (omega (arith, h))
fronts_same (a ∷ front) (b ∷ front') rest rest' e h =
    let r = fronts_same front front' rest rest' (ap (drop 1) e) (omega (arith, h)) in
    (ap (λ v. v ++ front) (ap (take 1) e) ∙ ap (λ v. b ∷ v) r.0, r.1)

-- a text begins with at most one block
pub begins_once_law : BeginsOnce
begins_once_law t b b' u u' x y =
    let same = pairs_same x.skipped y.skipped (b ++ u) (b' ++ u') (starts b u x.front x.ends x.no_pair)
    (starts b' u' y.front y.ends y.no_pair) (sym x.cut ∙ y.cut) in
    let e : (x.front ++ blank_line) ++ u ≡ (y.front ++ blank_line) ++ u' =
    ap (λ v. v ++ u) (sym x.ends) ∙ same.1 ∙ ap (λ v. v ++ u') y.ends in
    let P : List ℕ → Type 0 = λ v. (i : ℕ) → i < length x.front → take 4 (drop i v) ≢ blank_line in
    let Q : List ℕ → Type 0 = λ v. (i : ℕ) → i < length y.front → take 4 (drop i v) ≢ blank_line in
    let first = subst P x.ends x.first in
    let first' = subst Q y.ends y.first in
    let lengths : length x.front ≡ length y.front =
    elim (cases_lt (length x.front) (length y.front)) as (λ _. length x.front ≡ length y.front) [
      | inl lt ↦ absurd (not_before x.front y.front u u' e first' lt)
      | inr ge ↦ elim (cases_lt (length y.front) (length x.front)) as (λ _. length x.front ≡ length y.front) [
        | inl lt ↦ absurd (not_before y.front x.front u' u (sym e) first lt)
        | inr le ↦ omega arith
      ]
    ] in
    let r = fronts_same x.front y.front u u' e lengths in
    (x.ends ∙ ap (λ v. v ++ blank_line) r.0 ∙ sym y.ends, r.1)

-- more bytes keep the first block
pub keeps_block_law : KeepsBlock
keeps_block_law t block rest x h = record {
  skipped = h.skipped;
  front = h.front;
  cut = ap (λ v. v ++ x) h.cut ∙ append_assoc (pairs h.skipped) (block ++ rest) x
      ∙ ap (λ v. pairs h.skipped ++ v) (append_assoc block rest x);
  no_pair = h.no_pair;
  ends = h.ends;
  first = h.first;
  fits = h.fits;
}

-- what follows a block is shorter than the text
pub leaves_less_law : LeavesLess
leaves_less_law t block rest h =
    omega (
      arith,
      ap length h.cut,
      length-append (pairs h.skipped) (block ++ rest),
      length-append block rest,
      ap length h.ends,
      length-append h.front blank_line,
    )

-- how many bytes the pairs have
length-pairs : (n : ℕ) → length (pairs n) ≡ 2 * n
length-pairs zero = refl
length-pairs (suc n) = omega (arith, length-pairs n)

-- a block of a longer text lies in the shorter one that is long enough for it
pub shorter_block : (t more block rest : List ℕ) → LIMIT ≤ length t → Begins (t ++ more) block rest
    → (rest' : List ℕ) × Begins t block rest'
shorter_block t more block rest long h =
    let front = pairs h.skipped ++ block in
    let n = length front in
    let size : n ≡ 2 * h.skipped + length block =
    length-append (pairs h.skipped) block ∙ ap (λ k. k + length block) (length-pairs h.skipped) in
    let whole : t ++ more ≡ front ++ rest = h.cut ∙ sym (append_assoc (pairs h.skipped) block rest) in
    let taken : take n t ≡ front =
    sym (take-append-le n t more (omega (arith, size, h.fits, long))) ∙ ap (take n) whole ∙ take-append_seam front rest in (
      drop n t,
      record {
        skipped = h.skipped;
        front = h.front;
        cut = sym (take-append-drop n t) ∙ ap (λ v. v ++ drop n t) taken ∙ append_assoc (pairs h.skipped) block (drop n t);
        no_pair = h.no_pair;
        ends = h.ends;
        first = h.first;
        fits = h.fits;
      },
    )

-- more bytes make no block of what is too long
pub stays_too_long_law : StaysTooLong
stays_too_long_law t more h = record {
  long = omega (arith, h.long, length-append t more);
  none = λ block rest x. let y = shorter_block t more block rest h.long x in h.none block y.0 y.1;
}
