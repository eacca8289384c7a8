-- How a worker came by the fill of a job.
use Rattle.std.specs.Prelude.{◌≡◌, ◌+◌, ℕ, List, IfSome, Option, None, Some}
use Rattle.peer_source.specs.Answers.{Answer, Filled}
use Rattle.peer_flight.specs.Flights.{FlightId}
use Rattle.peer_fill.specs.Caches.{IsFoundFor}
use Rattle.peer_fill.specs.declared.counts.FillCounts.{FillCounts}
use Rattle.peer_fill.specs.declared.making.Made.{Made}
use Rattle.peer_fill.specs.declared.making.Made.TheVariants.{Called, Rehit}

-- the fill of this group and key: a value that was found, or an answer of the source that was called
abbrev pub IsMadeFor : {S : Type 0} → (ℕ → List ℕ → Answer → Type 0) → ℕ → List ℕ → Made S → Type 0
IsMadeFor answers group key (Called fill) = (fill.group ≡ group) × (fill.key ≡ key) × IfSome fill.answer (answers group key)
IsMadeFor answers group key (Rehit fill) = IsFoundFor group key fill

-- the fill, however it was made
abbrev pub fill_made : {S : Type 0} → Made S → Filled
fill_made (Called fill) = fill
fill_made (Rehit fill) = fill

-- 1 where the source was called
abbrev pub call_count : {S : Type 0} → Made S → ℕ
call_count (Called fill) = 1
call_count (Rehit fill) = 0

-- 1 where a job was taken, for an answer that is brought
abbrev pub job_count : Option FlightId → ℕ
job_count None = 0
job_count (Some job) = 1

-- one job more: a call of the source, or else a rehit
pub record CountsMade {S : Type 0} (made : Made S) (old new : FillCounts) : Type 0 where
  pub calls : new.calls ≡ old.calls + call_count made
  pub sum : new.calls + new.rehits ≡ old.calls + old.rehits + 1
