-- The world of a pool: what its connections and workers share, and what each has in its hands.
use Rattle.std.specs.Prelude.{ℕ, Bool, false, List, [], ◌∷◌, ◌++◌, Option, map, replicate}
use Rattle.peer_source.specs.Answers.{Answer}
use Rattle.peer_flight.specs.SingleFlight.{Place, State, no_flights}

-- a request's wish: the place that it asks for, or none for a fault; and whether its connection closes after it
pub record Wish : Type 0 where
  pub place : Option Place
  pub closing : Bool

-- a wish in its turn, which waits for the flight with this number, or is ready
pub record Ticket : Type 0 where
  pub wish : Wish
  pub flight : Option ℕ

-- what a flight has brought
pub data Outcome : Type 0 where
  Unset : Outcome
  Answered : Answer → Outcome
  NoMemory : Outcome

-- a flight: its place, its outcome, whether its right is spent, and how often it was taken, set and landed
pub record Flight : Type 0 where
  pub place : Place
  pub outcome : Outcome
  pub spent : Bool
  pub taken : ℕ
  pub sets : ℕ
  pub landed : ℕ

-- a flight that was just led
abbrev pub new_flight : Place → Flight
new_flight p = record { place = p; outcome = Unset; spent = false; taken = 0; sets = 0; landed = 0 }

-- a reader's hand: empty, a ticket, or a ticket with the right of the flight that has this number
pub data Hand : Type 0 where
  Empty : Hand
  WithTicket : Ticket → Hand
  WithRight : Ticket → ℕ → Hand

-- a worker's hands: empty, a flight with its right, or a flight whose right is spent
pub data Worker : Type 0 where
  Idle : Worker
  Filling : ℕ → Worker
  Landing : ℕ → Worker

-- a reply that was written: its ticket, and the flight's answer where the ticket names a flight
pub record Written : Type 0 where
  pub ticket : Ticket
  pub answer : Option Answer

-- a connection: the wishes that arrived, its reader's hand, its lane, the tickets that its writer took
-- and has not answered, the replies written, and whether its writer has ended
pub record Connection : Type 0 where
  pub arrived : List Wish
  pub hand : Hand
  pub lane : List Ticket
  pub waiting : List Ticket
  pub written : List Written
  pub ended : Bool

-- a connection at which nothing arrived
abbrev pub new_connection : Connection
new_connection = record { arrived = []; hand = Empty; lane = []; waiting = []; written = []; ended = false }

-- the table of open flights, every flight by its number, the job list, the workers and the connections
pub record World : Type 0 where
  pub table : State
  pub flights : List Flight
  pub jobs : List ℕ
  pub workers : List Worker
  pub connections : List Connection

-- a world begins empty
abbrev pub start : ℕ → ℕ → World
start workers connections =
    record {
      table = no_flights;
      flights = [];
      jobs = [];
      workers = replicate workers Idle;
      connections = replicate connections new_connection;
    }

-- the tickets in a hand
abbrev pub in_hand : Hand → List Ticket
in_hand Empty = []
in_hand (WithTicket t) = t ∷ []
in_hand (WithRight t m) = t ∷ []

-- the tickets of a connection in order: answered, taken and not answered, in its lane, in its reader's hand
abbrev pub tickets_of : Connection → List Ticket
tickets_of c = map (λ x. x.ticket) c.written ++ c.waiting ++ c.lane ++ in_hand c.hand
