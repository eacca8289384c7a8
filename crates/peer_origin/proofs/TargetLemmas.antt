-- The reserved bytes are those that are not unreserved.
use Rattle.std.proofs.Common.{◌≡◌, ℕ, Bool, true, false, not, List, [], ◌∷◌, ◌++◌, ◌≤◌, ap₂, refl, arith, inl, inr, if◌then◌else◌}
use Rattle.std.proofs.lemmas.Bool.{agree_below, agree_below_at, cases_lt}
use Rattle.std.proofs.lemmas.Bool.Decides.{nat_tests}
use Rattle.std.specs.List.{flat_map}
use Rattle.percent_encoding.specs.AsciiSet.{should_percent_encode}
use Rattle.percent_encoding.specs.Percent.{percent_encode, percent_encode_byte}
use Rattle.peer_origin.specs.Targets.{escaped_byte, is_unreserved}
use Rattle.peer_origin.specs.declared.target.TheConstants.{ESCAPED}

below : agree_below (should_percent_encode ESCAPED) (λ b. not (is_unreserved b)) 128 ≡ true
unfolding should_percent_encode
below = refl

above : (b : ℕ) → 128 ≤ b → should_percent_encode ESCAPED b ≡ not (is_unreserved b)
unfolding should_percent_encode
above b high = grind (arith, nat_tests)

judged : (b : ℕ) → should_percent_encode ESCAPED b ≡ not (is_unreserved b)
judged b = elim (cases_lt b 128) [
  | inl low ↦ agree_below_at (should_percent_encode ESCAPED) (λ b. not (is_unreserved b)) 128 b below low
  | inr high ↦ above b high
]

either : (b : ℕ) (x y : Bool) → x ≡ not y → (if x then percent_encode_byte b else b ∷ []) ≡ (if y then b ∷ [] else percent_encode_byte b)
either b true false e = refl
either b false true e = refl
either b true true e = absurd (grind (arith, e))
either b false false e = absurd (grind (arith, e))

pub escapes : (key : List ℕ) → percent_encode ESCAPED key ≡ flat_map escaped_byte key
unfolding percent_encode
escapes [] = refl
escapes (b ∷ bs) = ap₂ (λ x y. x ++ y) (either b (should_percent_encode ESCAPED b) (is_unreserved b) (judged b)) (escapes bs)
