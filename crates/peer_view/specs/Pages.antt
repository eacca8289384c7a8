-- What a writer into memory holds.
use Rattle.std.specs.Prelude.{ℕ, ◌-◌, List, Option, None, Some, min}

-- the bytes taken, at most how many a call takes, at most how many there may be, and how many calls failed
pub record Page : Type 0 where
  pub taken : List ℕ
  pub step : ℕ
  pub limit : Option ℕ
  pub failures : ℕ

-- how many of so many bytes one call takes, where `held` are taken already
abbrev pub page_room : ℕ → ℕ → Option ℕ → ℕ → ℕ
page_room held step None count = min count step
page_room held step (Some limit) count = min (min count step) (limit - held)
