-- What holds after every list of events.
use Rattle.std.specs.Prelude.{◌≡◌, ℕ, ◌+◌, ◌≤◌, ◌↔◌, false, IsTrue, List, length, Some, All, map, ◌⊎◌}
use Rattle.std.specs.List.{slice_get}
use Rattle.peer_source.specs.Answers.{Answer}
use Rattle.peer_flight.specs.SingleFlight.{Place}
use Rattle.peer_flight.specs.World.{Ticket, Outcome, Unset, Answered, NoMemory, Flight, Written, World, start, tickets_of}
use Rattle.peer_flight.specs.World.{Worker, Idle, Filling, Landing}
use Rattle.peer_flight.specs.Counts.{hands, jobs, fillers, spent}
use Rattle.peer_flight.specs.Events.{Event, Run}

-- the fact holds after every list of events from an empty world, whatever its workers and connections
abbrev pub Always : (ℕ → List ℕ → Answer → Type 0) → (World → Type 0) → Type 0
Always allowed Fact = (workers connections : ℕ) (events : List Event) (w : World) →
    Run allowed events (start workers connections) w → Fact w

-- flight m was led, and is f
abbrev pub IsFlight : List Flight → ℕ → Flight → Type 0
IsFlight flights m f = slice_get flights m ≡ Some f

-- two flights that have not landed differ in their place
abbrev pub OpenFlightsDiffer : World → Type 0
OpenFlightsDiffer w = (i j : ℕ) (f g : Flight) → IsFlight w.flights i f → IsFlight w.flights j g →
    f.landed ≡ 0 → g.landed ≡ 0 → f.place ≡ g.place → i ≡ j

-- the flight that the ticket names has the place of the ticket's wish
abbrev pub NamesItsPlace : List Flight → Ticket → Type 0
NamesItsPlace flights t = (m : ℕ) → t.flight ≡ Some m → (f : Flight) × IsFlight flights m f × (t.wish.place ≡ Some f.place)

-- so does every ticket of every connection
abbrev pub TicketsNameTheirPlaces : World → Type 0
TicketsNameTheirPlaces w = All (λ c. All (NamesItsPlace w.flights) (tickets_of c)) w.connections

-- a flight has brought something
abbrev pub HasOutcome : Outcome → Type 0
HasOutcome Unset = ⊥
HasOutcome (Answered a) = Unit {0}
HasOutcome NoMemory = Unit {0}

-- a flight's right stands in one place: one reader's hand, one place of the job list, one worker's hands, or spent;
-- and it is spent exactly where the flight has an outcome
pub record HasOneRight (w : World) (m : ℕ) (f : Flight) : Type 0 where
  pub one : hands m w.connections + jobs m w.jobs + fillers m w.workers + spent f ≡ 1
  pub where_set : IsTrue f.spent ↔ HasOutcome f.outcome

-- so does the right of every flight
abbrev pub RightsStandOnce : World → Type 0
RightsStandOnce w = (m : ℕ) (f : Flight) → IsFlight w.flights m f → HasOneRight w m f

-- the flight that the ticket names has an outcome, or a right that is not spent
abbrev pub IsServed : List Flight → Ticket → Type 0
IsServed flights t = (m : ℕ) → t.flight ≡ Some m → (f : Flight) × IsFlight flights m f × (HasOutcome f.outcome ⊎ (f.spent ≡ false))

-- so does that of every ticket of every connection
abbrev pub TicketsAreServed : World → Type 0
TicketsAreServed w = All (λ c. All (IsServed w.flights) (tickets_of c)) w.connections

-- a flight is taken, set and landed at most once each
pub record GoesOnce (f : Flight) : Type 0 where
  pub taken : f.taken ≤ 1
  pub sets : f.sets ≤ 1
  pub landed : f.landed ≤ 1

-- so does every flight
abbrev pub FlightsGoOnce : World → Type 0
FlightsGoOnce w = All GoesOnce w.flights

-- a reply to a ticket that names a flight was written with the flight's outcome, an answer
abbrev pub IsAnswered : List Flight → Written → Type 0
IsAnswered flights x = (m : ℕ) → x.ticket.flight ≡ Some m → (f : Flight) × (a : Answer) × IsFlight flights m f
    × (f.outcome ≡ Answered a) × (x.answer ≡ Some a)

-- so was every reply of every connection
abbrev pub RepliesFollowOutcomes : World → Type 0
RepliesFollowOutcomes w = All (λ c. All (IsAnswered w.flights) c.written) w.connections

-- a connection's wishes answered, taken and not answered, in the lane and in the hand are those that arrived, in order
abbrev pub WishesKeepOrder : World → Type 0
WishesKeepOrder w = All (λ c. map (λ t. t.wish) (tickets_of c) ≡ c.arrived) w.connections

-- the worker has flight m in its hands
abbrev pub Holds : Worker → ℕ → Type 0
Holds Idle m = ⊥
Holds (Filling k) m = k ≡ m
Holds (Landing k) m = k ≡ m

-- workers that hold flights of one place are one worker
abbrev pub WorkersDiffer : World → Type 0
WorkersDiffer w = (i j : ℕ) (v u : Worker) (m k : ℕ) (f g : Flight) →
    slice_get w.workers i ≡ Some v → slice_get w.workers j ≡ Some u → Holds v m → Holds u k →
    IsFlight w.flights m f → IsFlight w.flights k g → f.place ≡ g.place → i ≡ j

-- the table's entries are the flights that have not landed
pub record TableIsExact (w : World) : Type 0 where
  pub number : w.table.number ≡ length w.flights
  pub found : (p : Place) (m : ℕ) → w.table.live p ≡ Some m → (f : Flight) × IsFlight w.flights m f × (f.place ≡ p) × (f.landed ≡ 0)
  pub open_flight : (m : ℕ) (f : Flight) → IsFlight w.flights m f → f.landed ≡ 0 → w.table.live f.place ≡ Some m

-- every answer that a flight brought is allowed at its place
abbrev pub AnswersAreAllowed : (ℕ → List ℕ → Answer → Type 0) → World → Type 0
AnswersAreAllowed allowed w = (m : ℕ) (f : Flight) (a : Answer) → IsFlight w.flights m f →
    f.outcome ≡ Answered a → ∥ allowed f.place.group f.place.key a ∥₁

-- all of these facts
pub record IsLawful (allowed : ℕ → List ℕ → Answer → Type 0) (w : World) : Type 0 where
  pub open_flights_differ : OpenFlightsDiffer w
  pub tickets_name_their_places : TicketsNameTheirPlaces w
  pub rights_stand_once : RightsStandOnce w
  pub tickets_are_served : TicketsAreServed w
  pub flights_go_once : FlightsGoOnce w
  pub replies_follow_outcomes : RepliesFollowOutcomes w
  pub wishes_keep_order : WishesKeepOrder w
  pub workers_differ : WorkersDiffer w
  pub table_is_exact : TableIsExact w
  pub answers_are_allowed : AnswersAreAllowed allowed w
