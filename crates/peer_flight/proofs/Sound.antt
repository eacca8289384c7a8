-- What every event keeps of a world: how often each flight stands where, what the table has, what each connection has.
use Rattle.std.proofs.Common.{◌≡◌, ℕ, ◌+◌, ◌≤◌, false, List, length, Some, map}
use Rattle.std.specs.List.{All}
use Rattle.peer_source.specs.Answers.{Answer}
use Rattle.peer_flight.specs.SingleFlight.{Place, State}
use Rattle.peer_flight.specs.World.{Ticket, Outcome, Unset, Answered, NoMemory, Flight, Connection, World, tickets_of}
use Rattle.peer_flight.specs.Counts.{hands, jobs, fillers, landers, spent}
use Rattle.peer_flight.specs.Laws.{IsFlight, NamesItsPlace, IsAnswered}

-- 1 where there is an outcome
abbrev pub outcomes : Outcome → ℕ
outcomes Unset = 0
outcomes (Answered a) = 1
outcomes NoMemory = 1

-- a flight whose right stands in h hands, j places of the job list and with f workers, and that l workers land
pub record Balances (h j f l : ℕ) (x : Flight) : Type 0 where
  pub right : h + j + f + spent x ≡ 1
  pub taken : x.taken ≡ f + x.sets
  pub sets : x.sets ≡ l + x.landed
  pub uses : spent x ≡ x.sets
  pub outcome : outcomes x.outcome ≡ x.sets

-- every flight balances, and no number that was not given stands anywhere
pub record Counted (flights : List Flight) (h j f l : ℕ → ℕ) : Type 0 where
  pub each : (m : ℕ) (x : Flight) → IsFlight flights m x → Balances (h m) (j m) (f m) (l m) x
  pub none : (m : ℕ) → length flights ≤ m → h m + j m + f m + l m ≡ 0

-- the table's entries are the flights that have not landed
pub record Tabled (s : State) (flights : List Flight) : Type 0 where
  pub number : s.number ≡ length flights
  pub found : (p : Place) (m : ℕ) → s.live p ≡ Some m → (f : Flight) × IsFlight flights m f × (f.place ≡ p) × (f.landed ≡ 0)
  pub open_flight : (m : ℕ) (f : Flight) → IsFlight flights m f → f.landed ≡ 0 → s.live f.place ≡ Some m

-- a connection's tickets name their places and keep the order, its replies follow outcomes, and a writer that goes on has one ticket
pub record IsGood (flights : List Flight) (c : Connection) : Type 0 where
  pub tickets : All (NamesItsPlace flights) (tickets_of c)
  pub order : map (λ (t : Ticket). t.wish) (tickets_of c) ≡ c.arrived
  pub written : All (IsAnswered flights) c.written
  pub one : c.ended ≡ false → length c.waiting ≤ 1

-- every answer is allowed
abbrev pub Allowed : (ℕ → List ℕ → Answer → Type 0) → List Flight → Type 0
Allowed allowed flights = (m : ℕ) (f : Flight) (a : Answer) → IsFlight flights m f → f.outcome ≡ Answered a → ∥ allowed f.place.group f.place.key a ∥₁

pub record Sound (allowed : ℕ → List ℕ → Answer → Type 0) (w : World) : Type 0 where
  pub counted : Counted w.flights (λ m. hands m w.connections) (λ m. jobs m w.jobs) (λ m. fillers m w.workers) (λ m. landers m w.workers)
  pub tabled : Tabled w.table w.flights
  pub good : All (IsGood w.flights) w.connections
  pub allows : Allowed allowed w.flights
