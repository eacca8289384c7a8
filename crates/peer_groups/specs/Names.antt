-- Names of groups, in the order of the groups' numbers.
use Rattle.std.specs.Prelude.{◌≡◌, ℕ, List, Option, Some, length, slice_get}

-- each name is that of the group whose number is its place
abbrev pub AreNumbered : (List ℕ → Option ℕ) → List (List ℕ) → Type 0
AreNumbered number_of names = (i : ℕ) (name : List ℕ) → slice_get names i ≡ Some name → number_of name ≡ Some i

-- so are all, and there is one for each group
abbrev pub AreAllNames : (List ℕ → Option ℕ) → ℕ → List (List ℕ) → Type 0
AreAllNames number_of count names = (length names ≡ count) × AreNumbered number_of names
