-- At which place a time is counted, and how many were.
use Rattle.std.specs.Prelude.{◌<◌, ◌≤◌, ◌-◌, ◌^◌, ℕ, List, length, min, sum, take}
use Rattle.std.specs.List.{AllWithin, HoldsAt}
use Rattle.peer_stats.specs.declared.times.Bound.{Bound}

-- this is the place of the first bound that is not below so many microseconds, or the one behind all bounds
pub record IsPlaceOf (bounds : List Bound) (micros place : ℕ) : Type 0 where
  pub within : place ≤ length bounds
  pub lower : AllWithin (λ b. b.micros < micros) bounds 0 place
  pub own : place < length bounds → HoldsAt (λ b. micros ≤ b.micros) bounds place

-- how many were counted at the first n places, 2^64 - 1 at most
abbrev pub count_in_first : List ℕ → ℕ → ℕ
count_in_first places n = min (sum (take n places)) (2 ^ 64 - 1)
