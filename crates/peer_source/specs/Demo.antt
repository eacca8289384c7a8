-- The groups and answers of the source for demonstrations.
use Rattle.std.specs.Prelude.{◌≡◌, ℕ, ◌+◌, ◌-◌, ◌*◌, List, [], ◌∷◌, length, codes, cond, nat_lt, nat_le, ◌==◌, ◌&&◌}
use Rattle.std.specs.Prelude.{Option, Some, None, bytes_eq, replicate, decimal}
use Rattle.std.proofs.Common.{◌<◌, refl, arith}
use Rattle.std.specs.List.{list_all}
use Rattle.std.specs.Char.{is_ascii_digit}
use Rattle.peer_source.specs.Answers.{Answer, Found, Failed, found_within}

-- the number that decimal digits write, after those of n
abbrev pub number_after : ℕ → List ℕ → ℕ
number_after n [] = n
number_after n (digit ∷ digits) = number_after (n * 10 + (digit - 48)) digits

-- the number that a text of 1 to `most` digits writes
abbrev pub number_in : ℕ → List ℕ → Option ℕ
number_in most text =
    cond (nat_lt 0 (length text) && nat_le (length text) most && list_all is_ascii_digit text) (Some (number_after 0 text)) None

-- `echo`: the key itself
abbrev pub echo_answer : List ℕ → Answer
echo_answer key = found_within key

-- `square`: the square of a number of at most 9 digits
abbrev pub square_answer : List ℕ → Answer
square_answer key = elim (number_in 9 key) as (λ _. Answer) [ Some n ↦ Found (decimal (n * n)) | None ↦ Failed (codes "not a number") ]

-- `fill`: so many bytes `x`, for a number of at most 7 digits up to 2,000,000
abbrev pub fill_answer : List ℕ → Answer
fill_answer key = elim (number_in 7 key) as (λ _. Answer) [
  | Some n ↦ cond (nat_le n 2000000) (found_within (replicate n 120)) (Failed (codes "not a size"))
  | None ↦ Failed (codes "not a size")
]

-- the one answer for a group's number and a key
abbrev pub demo_answer : ℕ → List ℕ → Answer
demo_answer group key =
    cond (group == 0) (echo_answer key) (cond (group == 1) (square_answer key)
    (cond (group == 2) (fill_answer key) (Failed (codes "no group"))))

-- the numbers of the groups
abbrev pub demo_number : List ℕ → Option ℕ
demo_number name =
    cond (bytes_eq name (codes "echo")) (Some 0) (cond (bytes_eq name (codes "square")) (Some 1)
    (cond (bytes_eq name (codes "fill")) (Some 2) None))

-- an answer of the source is the one answer
abbrev pub DemoAnswers : ℕ → List ℕ → Answer → Type 0
DemoAnswers group key answer = answer ≡ demo_answer group key

-- it has an answer to everything
pub demo_answered : (g : ℕ) (k : List ℕ) → (a : Answer) × DemoAnswers g k a
demo_answered g k = (demo_answer g k, refl)

-- each number is that of a group
pub demo_numbered : (name : List ℕ) (i : ℕ) → demo_number name ≡ Some i → i < 3
demo_numbered name i e = grind arith
