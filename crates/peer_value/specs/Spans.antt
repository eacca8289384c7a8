-- The times of a value that is fetched, from which its spans are taken.
use Rattle.std.specs.Prelude.{ℕ, Option, Some, None}
use Rattle.std.specs.Duration.{as_nanos}
use Rattle.std.specs.declared.time.Duration.{Duration}

-- what was noted first: the time before, or this one
abbrev pub first_of : Option Duration → Duration → Option Duration
first_of (Some before) now = Some before
first_of None now = Some now

-- when that was, in nanoseconds; the end, if it was not
abbrev pub at_last : Option Duration → Duration → ℕ
at_last (Some time) end = as_nanos time
at_last None end = as_nanos end
