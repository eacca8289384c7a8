-- Targets that name their place byte by byte.
use Rattle.std.specs.Prelude.{◌≢◌, ℕ, List, ◌∷◌, ◌++◌}
use Rattle.percent_encoding.specs.Percent.{percent_sign}
use Rattle.peer_path.specs.Places.{question_mark, slash, base_path}

-- a byte that ends no path and begins no escape
abbrev pub IsPlain : ℕ → Type 0
IsPlain b = (b ≢ question_mark) × (b ≢ percent_sign)

-- such a byte, and no `/`
abbrev pub IsPlainInName : ℕ → Type 0
IsPlainInName b = IsPlain b × (b ≢ slash)

-- the target of a group and a key without escapes
abbrev pub plain_target : List ℕ → List ℕ → List ℕ
plain_target group key = base_path ++ (group ++ slash ∷ key)
