-- An address of a service: until when it rests, and what events make of it. Times are in nanoseconds since its thread began.
use Rattle.std.specs.Prelude.{◌≡◌, ◌<◌, ◌≤◌, ◌+◌, ◌-◌, ◌^◌, ℕ, min, Option, option_map, Some, None, IsSome, IsSomeAnd}
use Rattle.std.specs.Duration.{as_nanos, max_nanos}
use Rattle.std.specs.declared.time.Duration.{Duration}
use Rattle.peer_value.specs.declared.listed.Listed.{Listed}
use Rattle.peer_value.specs.declared.listed.Event.{Event}
use Rattle.peer_value.specs.declared.listed.Event.TheVariants as event

-- until when it rests, or rested
abbrev pub until_of : Listed → Option ℕ
until_of a = option_map as_nanos a.until

-- it rests at this time
abbrev pub RestsAt : Duration → Listed → Type 0
RestsAt now a = IsSomeAnd a.until (λ until. as_nanos now < as_nanos until)

-- so long after a time
abbrev pub later_by : Duration → Duration → ℕ
later_by time now = min (as_nanos now + as_nanos time) max_nanos

-- it was given: one that rested until now rests until this time for all others
pub record IsGiven (until : ℕ) (old new : Listed) : Type 0 where
  pub address : new.address ≡ old.address
  pub lates : new.lates ≡ old.lates
  pub awake : old.until ≡ None → new.until ≡ None
  pub again : IsSome old.until → until_of new ≡ Some until

-- how many values in a row were late, and until when it rests, once an event befell it: so many lates in a row or a connection
-- that was not made have it rest until this time, and what ends a rest is the contrary of what it began by
abbrev pub Becomes : Event → ℕ → ℕ → Listed → Listed → Type 0
Becomes event.Connected most until old new = (new.lates ≡ old.lates) × (old.lates < most → new.until ≡ None) × (most ≤ old.lates → new.until ≡ old.until)
Becomes event.Answered most until old new = (new.lates ≡ 0) × (most ≤ old.lates → new.until ≡ None) × (old.lates < most → new.until ≡ old.until)
Becomes event.Late most until old new = (new.lates ≡ min (old.lates + 1) (2 ^ 32 - 1)) × (most ≤ new.lates → until_of new ≡ Some until) × (new.lates < most → new.until ≡ old.until)
Becomes event.Unreached most until old new = (new.lates ≡ old.lates) × (until_of new ≡ Some until)

-- the same address, once an event befell it
abbrev pub IsAfter : Event → ℕ → ℕ → Listed → Listed → Type 0
IsAfter event most until old new = (new.address ≡ old.address) × Becomes event most until old new
