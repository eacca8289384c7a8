-- The numbers that a pool can be opened with.
use Rattle.std.specs.Prelude.{◌≡◌, ◌<◌, ◌≤◌, ◌⊎◌, ℕ}

-- 1 to `most`
abbrev pub IsWithin : ℕ → ℕ → Type 0
IsWithin most n = (0 < n) × (n ≤ most)

-- 0, or more than `most`
abbrev pub IsOutside : ℕ → ℕ → Type 0
IsOutside most n = (n ≡ 0) ⊎ (most < n)
