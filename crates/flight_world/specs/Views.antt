-- How the plain data of the module `world` is seen.
use Rattle.std.specs.Prelude.{◌≡◌, ℕ, false, List, [], ◌∷◌, ◌++◌, ◌⊎◌, ◌≤◌, length, Option, None, Some, slice_get}
use Rattle.peer_source.specs.Answers.{Answer, Filled}
use Rattle.peer_flight.specs.World.{Wish, Ticket, Flight, new_flight, Connection, Outcome, Unset, Answered, NoMemory, World}
use Rattle.peer_flight.specs.World.{Hand, Empty, WithTicket, WithRight, Worker, Idle, Filling, Landing}
use Rattle.peer_flight.specs.SingleFlight.{place_of, State, Joins, Leads}
use Rattle.peer_flight.specs.Events.{MayWant, SetsAs, SeesOutcome, pending, with_wish}
use Rattle.flight_world.specs.declared.worker.Hands.{Hands}
use Rattle.flight_world.specs.declared.worker.Hands.TheVariants as hands
use Rattle.flight_world.specs.declared.ticket.Hand.{Hand as Held}
use Rattle.flight_world.specs.declared.ticket.Hand.TheVariants as held

-- the outcome of a fill with this answer
abbrev pub outcome_by : Option Answer → Outcome
outcome_by None = NoMemory
outcome_by (Some answer) = Answered answer

-- the outcome that a flight's fill is
abbrev pub outcome_of : Option Filled → Outcome
outcome_of None = Unset
outcome_of (Some fill) = outcome_by fill.answer

-- the answer of a fill, where there is one
abbrev pub answer_in : Option Filled → Option Answer
answer_in None = None
answer_in (Some fill) = fill.answer

-- what a reader has in its hand
abbrev pub hand_of : Held → Hand
hand_of held.Empty = Empty
hand_of (held.WithTicket ticket) = WithTicket ticket
hand_of (held.WithRight ticket number) = WithRight ticket number

-- the fill is what the flight of the ticket brought
pub record Brings (flights : List Flight) (ticket : Ticket) (fill : Filled) : Type 0 where
  pub number : ℕ
  pub names : ticket.flight ≡ Some number
  pub flight : Flight
  pub led : slice_get flights number ≡ Some flight
  pub outcome : flight.outcome ≡ outcome_by fill.answer

-- what a worker has in its hands
abbrev pub worker_of : Hands → Worker
worker_of hands.Empty = Idle
worker_of (hands.Filling number) = Filling number
worker_of (hands.Landing number) = Landing number

-- the flight of the ticket has brought nothing, if the ticket has one
abbrev pub BringsNothing : List Flight → Ticket → Type 0
BringsNothing flights ticket = (m : ℕ) (f : Flight) → ticket.flight ≡ Some m → slice_get flights m ≡ Some f → f.outcome ≡ Unset

-- a writer that waits for one ticket at most while it goes on sees no outcome
abbrev pub SeesNone : List Flight → Connection → Type 0
SeesNone flights c = (c.ended ≡ false → length c.waiting ≤ 1) → (new : Connection) → SeesOutcome flights c new → ⊥

-- outcome set, by this fill, which is of the flight's place
pub record SetsFill (allowed : ℕ → List ℕ → Answer → Type 0) (fill : Filled) (v : ℕ) (w w' : World) : Type 0 where
  pub sets : SetsAs allowed (outcome_by fill.answer) v w w'
  pub of : sets.flight.place ≡ place_of fill.group fill.key

-- this wish arrived at the empty hand of a connection, and its place joined a flight of the table, or led one that is listed
pub record WantsAt (wish : Wish) (s s' : State) (flights flights' : List Flight) (old new : Connection) : Type 0 where
  pub may : MayWant old wish
  pub number : ℕ
  pub wanted : (Joins s s' may.place number × (flights' ≡ flights) × (new ≡ with_wish old wish (WithTicket (pending wish number))))
      ⊎ (Leads s s' may.place number × (flights' ≡ flights ++ new_flight may.place ∷ [])
      × (new ≡ with_wish old wish (WithRight (pending wish number) number)))
