-- Lists of bytes, joined.
use Rattle.std.specs.Prelude.{ℕ, List, [], ◌∷◌, ◌++◌}

abbrev pub join : List (List ℕ) → List ℕ
join [] = []
join (r ∷ rs) = r ++ join rs
