-- The law of the source for demonstrations: what it finds is within the limit.
use Rattle.std.proofs.Common.{◌≡◌, ℕ, ◌+◌, ◌-◌, ◌*◌, ◌^◌, ◌<◌, ◌≤◌, Bool, true, false, List, [], ◌∷◌, length}
use Rattle.std.proofs.Common.{Some, None, sym, ap, ◌∙◌, subst, refl, arith, lit<}
use Rattle.std.proofs.Math.Nat.{mul-le-mul, mul-le-mul_right, mul_assoc, pow-le-pow_right}
use Rattle.std.specs.Prelude.{nat_le, nat_lt, cond, codes, decimal, ◌==◌, ◌&&◌, replicate}
use Rattle.std.proofs.lemmas.Bool.{and_parts, leb-true}
use Rattle.std.proofs.lemmas.Option.{none-some, same_Some}
use Rattle.std.proofs.lemmas.Fmt.{length-decimal-le}
use Rattle.std.proofs.lemmas.Grind.{common_steps}
use Rattle.std.specs.List.{list_all}
use Rattle.std.specs.Char.{is_ascii_digit}
use Rattle.peer_view.specs.Sinks.{MAX_VALUE}
use Rattle.peer_source.specs.Answers.{Answer, Found, Failed, IsWithinLimit, found_within}
use Rattle.peer_source.specs.Limits.{found_is_within}
use Rattle.peer_source.specs.Demo.{DemoAnswers, square_answer, fill_answer, number_after, number_in}

abbrev IsShort : Answer → Type 0
IsShort a = IsWithinLimit (Some a)

short_cond : (b : Bool) (a c : Answer) → IsShort a → IsShort c → IsShort (cond b a c)
short_cond true a c h k = h
short_cond false a c h k = k

-- digits write a number below the power of ten of their count
after_below : (n : ℕ) (text : List ℕ) → list_all is_ascii_digit text ≡ true → number_after n text < (n + 1) * 10 ^ length text
after_below n [] digits = omega arith
after_below n (d ∷ ds) digits =
    let both = and_parts (is_ascii_digit d) (list_all is_ascii_digit ds) digits in
    let digit : d - 48 ≤ 9 = grind (arith, common_steps, both.0) in
    let rest = after_below (n * 10 + (d - 48)) ds both.1 in
    let more : n * 10 + (d - 48) + 1 ≤ (n + 1) * 10 = omega (arith, digit) in
    let whole : (n * 10 + (d - 48) + 1) * 10 ^ length ds ≤ ((n + 1) * 10) * 10 ^ length ds = mul-le-mul_right (10 ^ length ds) more in
    let power : 10 ^ length (d ∷ ds) ≡ 10 * 10 ^ length ds = grind arith in
    let product : (n + 1) * 10 ^ length (d ∷ ds) ≡ ((n + 1) * 10) * 10 ^ length ds =
    ap (λ p. (n + 1) * p) power ∙ sym (mul_assoc (n + 1) 10 (10 ^ length ds)) in
    omega (arith, rest, whole, product)

some_from : (b : Bool) (x n : ℕ) → cond b (Some x) None ≡ Some n → (b ≡ true) × (x ≡ n)
some_from true x n e = (refl, same_Some x n e)
some_from false x n e = absurd (none-some n e)

number_small : (text : List ℕ) (n : ℕ) → number_in 9 text ≡ Some n → n < 1000000000
number_small text n e =
    let some = some_from (nat_lt 0 (length text) && nat_le (length text) 9 && list_all is_ascii_digit text) (number_after 0 text) n e in
    let parts = and_parts (nat_lt 0 (length text) && nat_le (length text) 9) (list_all is_ascii_digit text) some.0 in
    let both = and_parts (nat_lt 0 (length text)) (nat_le (length text) 9) parts.0 in
    let few : length text ≤ 9 = leb-true (length text) 9 both.1 in
    let below = after_below 0 text parts.1 in
    let most : 10 ^ length text ≤ 10 ^ 9 = pow-le-pow_right (lit< tt) few in
    omega (arith, below, most, some.1)

short_square : (text : List ℕ) → IsShort (square_answer text)
short_square text =
    (elim (number_in 9 text) as (λ o. number_in 9 text ≡ o
    → IsShort (elim o as (λ _. Answer) [ Some n ↦ Found (decimal (n * n)) | None ↦ Failed (codes "not a number") ])) [
      | Some n ↦ λ e. short n (number_small text n e)
      | None ↦ λ e. tt
    ]) refl
  where
    short : (n : ℕ) → n < 1000000000 → length (decimal (n * n)) ≤ MAX_VALUE
    short n small =
        let most : n ≤ 999999999 = omega (arith, small) in
        let product : n * n ≤ 999999999 * 999999999 = mul-le-mul {n₁ = n} {m₁ = n} {n₂ = 999999999} {m₂ = 999999999} most most in
        let few : length (decimal (n * n)) ≤ 18 =
        length-decimal-le 18 (n * n) (lit< tt) (omega (arith, product)) (omega (arith, product)) in
        omega (arith, few)

short_fill : (text : List ℕ) → IsShort (fill_answer text)
short_fill text =
    (elim (number_in 7 text) as (λ o. IsShort (elim o as (λ _. Answer) [
      | Some n ↦ cond (nat_le n 2000000) (found_within (replicate n 120)) (Failed (codes "not a size"))
      | None ↦ Failed (codes "not a size")
    ])) [
      | Some n ↦ short_cond (nat_le n 2000000) (found_within (replicate n 120)) (Failed (codes "not a size"))
          (found_is_within (replicate n 120)) tt
      | None ↦ tt
    ])

pub demo_limited : (g : ℕ) (k : List ℕ) (a : Answer) → DemoAnswers g k a → IsWithinLimit (Some a)
demo_limited g k a e =
    subst IsShort (sym e)
    (short_cond (g == 0) _ _ (found_is_within k) (short_cond (g == 1) _ _ (short_square k) (short_cond (g == 2) _ _ (short_fill k) tt)))
