-- Single flight: one number for all that want a group and a key at the same time (groupcache, `singleflight.go`).
use Rattle.std.specs.Prelude.{◌≡◌, ◌≢◌, ℕ, ◌+◌, ◌==◌, ◌&&◌, Bool, List, bytes_eq, Option, None, Some, IsSome, Contains, length, ◌↔◌}
use Rattle.std.specs.List.{IsDistinct}

-- a group, by its number, and a key, by its bytes
pub record Place : Type 0 where
  pub group : ℕ
  pub key : List ℕ

-- the place of a group's number and a key
abbrev pub place_of : ℕ → List ℕ → Place
place_of group key = record { group = group; key = key }

-- whether two places are the same
abbrev pub place_eq : Place → Place → Bool
place_eq p q = (p.group == q.group) && bytes_eq p.key q.key

-- the number of the flights led so far, and for each place the open flight, if there is one
pub record State : Type 0 where
  pub number : ℕ
  pub live : Place → Option ℕ

-- so many places have an open flight: they are the places of a list, each once
pub record HasOpen (s : State) (n : ℕ) : Type 0 where
  pub places : List Place
  pub size : length places ≡ n
  pub once : IsDistinct place_eq places
  pub each : (p : Place) → IsSome (s.live p) ↔ Contains places p

-- no flight was led
abbrev pub no_flights : State
no_flights = record { number = 0; live = λ p. None }

-- both say the same
pub record IsSame (s s' : State) : Type 0 where
  pub number : s'.number ≡ s.number
  pub live : (p : Place) → s'.live p ≡ s.live p

-- the place had no open flight: it leads the next number, and no other place changes
pub record Leads (s s' : State) (p : Place) (m : ℕ) : Type 0 where
  pub none : s.live p ≡ None
  pub number : m ≡ s.number
  pub next : s'.number ≡ s.number + 1
  pub live : s'.live p ≡ Some m
  pub others : (q : Place) → q ≢ p → s'.live q ≡ s.live q

-- the place joins its open flight, and nothing changes
pub record Joins (s s' : State) (p : Place) (m : ℕ) : Type 0 where
  pub live : s.live p ≡ Some m
  pub same : IsSame s s'

-- the place's open flight ends where it has the number m, and nothing else changes
pub record Lands (s s' : State) (p : Place) (m : ℕ) : Type 0 where
  pub number : s'.number ≡ s.number
  pub found : s.live p ≡ Some m → s'.live p ≡ None
  pub kept : s.live p ≢ Some m → s'.live p ≡ s.live p
  pub others : (q : Place) → q ≢ p → s'.live q ≡ s.live q
