-- What a sink keeps of a value, and which values it refuses.
use Rattle.std.specs.Prelude.{ℕ, ◌<◌, List, ◌++◌, take, drop, length, Option, None, Some}

-- the most bytes of a value
abbrev pub MAX_VALUE : ℕ
MAX_VALUE = 1048576

-- what is kept of a value: all of it, or the first bytes that fit
abbrev pub kept : Option ℕ → List ℕ → List ℕ
kept None value = value
kept (Some room) value = take room value

-- what then stands where values are put: the value, or those first bytes and what was behind them before
abbrev pub placed : Option ℕ → List ℕ → List ℕ → List ℕ
placed None value before = value
placed (Some room) value before = take room value ++ drop (length value) before

-- a value is too long above the limit, unless the first bytes are kept
abbrev pub IsTooLong : Option ℕ → List ℕ → Type 0
IsTooLong None value = MAX_VALUE < length value
IsTooLong (Some room) value = ⊥
