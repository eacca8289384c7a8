-- What a source answers for a group and a key.
use Rattle.std.specs.Prelude.{ℕ, ◌≤◌, List, length, cond, leb, codes, Option, Some, None}
use Rattle.peer_view.specs.Sinks.{MAX_VALUE}

-- a value, or an error with its text
pub data Answer : Type 0 where
  Found : List ℕ → Answer
  Failed : List ℕ → Answer

-- the error of a value over the limit
abbrev pub too_long_text : List ℕ
too_long_text = codes "value too long"

-- a value as it counts: over the limit it is an error
abbrev pub found_within : List ℕ → Answer
found_within value = cond (leb (length value) MAX_VALUE) (Found value) (Failed too_long_text)

-- a found value is within the limit
abbrev pub IsWithinLimit : Option Answer → Type 0
IsWithinLimit None = Unit {0}
IsWithinLimit (Some (Found value)) = length value ≤ MAX_VALUE
IsWithinLimit (Some (Failed text)) = Unit {0}

-- a group's number, a key, and the answer for them, none where memory was refused
pub record Filled : Type 0 where
  pub group : ℕ
  pub key : List ℕ
  pub answer : Option Answer
