-- The group `upper` and its answers.
use Rattle.std.specs.Prelude.{◌≡◌, ℕ, List, map, codes, cond, Option, Some, None, bytes_eq}
use Rattle.std.proofs.Common.{◌<◌, arith, subst, sym, refl}
use Rattle.std.specs.Char.{to_ascii_uppercase}
use Rattle.peer_source.specs.Answers.{Answer, IsWithinLimit, found_within}
use Rattle.peer_source.specs.Limits.{found_is_within}

-- the answer for a key: the key in upper case
abbrev pub upper_answer : List ℕ → Answer
upper_answer key = found_within (map to_ascii_uppercase key)

-- the number of the group
abbrev pub upper_number : List ℕ → Option ℕ
upper_number name = cond (bytes_eq name (codes "upper")) (Some 0) None

-- what the source finds is within the limit
pub upper_limited : (k : List ℕ) (a : Answer) → a ≡ upper_answer k → IsWithinLimit (Some a)
upper_limited k a e = subst (λ x. IsWithinLimit (Some x)) (sym e) (found_is_within (map to_ascii_uppercase k))

-- it has an answer to everything
pub upper_answered : (k : List ℕ) → (a : Answer) × (a ≡ upper_answer k)
upper_answered k = (upper_answer k, refl)

-- each number is that of a group
pub upper_numbered : (name : List ℕ) (i : ℕ) → upper_number name ≡ Some i → i < 1
upper_numbered name i e = grind arith
