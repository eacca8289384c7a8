-- The eight events of a pool, each in a world that allows it.
use Rattle.std.specs.Prelude.{◌≡◌, ℕ, ◌+◌, ◌<◌, Bool, true, false, List, [], ◌∷◌, ◌++◌, length, Option, None, Some, All, ◌⊎◌}
use Rattle.std.specs.List.{slice_get, slice_set}
use Rattle.peer_source.specs.Answers.{Answer}
use Rattle.peer_flight.specs.SingleFlight.{Place, State, Leads, Joins, Lands}
use Rattle.peer_flight.specs.World.{Wish, Ticket, Outcome, Unset, Answered, NoMemory, Flight, new_flight, Connection, World}
use Rattle.peer_flight.specs.World.{Hand, Empty, WithTicket, WithRight, Idle, Filling, Landing}

-- the most jobs in the list
abbrev pub JOBS : ℕ
JOBS = 256

-- the most tickets in a lane
abbrev pub TICKETS : ℕ
TICKETS = 64

-- the most replies that a connection gets, the last of which closes
abbrev pub REPLIES : ℕ
REPLIES = 10000

-- what happens next, and in which connection or at which worker
pub data Event : Type 0 where
  Want : (connection : ℕ) → Event
  JobPut : (connection : ℕ) → Event
  LanePut : (connection : ℕ) → Event
  JobTaken : (worker : ℕ) → Event
  OutcomeSet : (worker : ℕ) → Event
  Landed : (worker : ℕ) → Event
  OutcomeSeen : (connection : ℕ) → Event
  LaneTaken : (connection : ℕ) → Event

-- another wish may arrive: the hand is empty, no wish so far closes, and fewer than the most arrived
pub record MayArrive (c : Connection) : Type 0 where
  pub empty : c.hand ≡ Empty
  pub none_closes : All (λ wish. wish.closing ≡ false) c.arrived
  pub room : length c.arrived < REPLIES

-- the ticket of a wish whose reply is there
abbrev pub ready : Wish → Ticket
ready wish = record { wish = wish; flight = None }

-- the ticket of a wish that waits for flight m
abbrev pub pending : Wish → ℕ → Ticket
pending wish m = record { wish = wish; flight = Some m }

-- the connection after a wish arrived whose ticket is in this hand
abbrev pub with_wish : Connection → Wish → Hand → Connection
with_wish c wish hand = record c { arrived = c.arrived ++ wish ∷ []; hand = hand }

-- the place joins flight m, and the ticket comes into the hand
pub record JoinsFlight (w w' : World) (c : ℕ) (old : Connection) (wish : Wish) (p : Place) (m : ℕ) : Type 0 where
  pub table : State
  pub joins : Joins w.table table p m
  pub after : w' ≡ record w { table = table; connections = slice_set w.connections c (with_wish old wish (WithTicket (pending wish m))) }

-- the place leads flight m, and the ticket comes into the hand with the flight's right
pub record LeadsFlight (w w' : World) (c : ℕ) (old : Connection) (wish : Wish) (p : Place) (m : ℕ) : Type 0 where
  pub table : State
  pub leads : Leads w.table table p m
  pub after : w' ≡ record w {
    table = table;
    flights = w.flights ++ new_flight p ∷ [];
    connections = slice_set w.connections c (with_wish old wish (WithRight (pending wish m) m));
  }

-- the wish may be wanted: it may arrive, and has a place
pub record MayWant (c : Connection) (wish : Wish) : Type 0 where
  pub arrives : MayArrive c
  pub place : Place
  pub asks : wish.place ≡ Some place

-- want: this wish, which has a place, arrives at an empty hand
pub record WantsAs (wish : Wish) (c : ℕ) (w w' : World) : Type 0 where
  pub old : Connection
  pub here : slice_get w.connections c ≡ Some old
  pub may : MayWant old wish
  pub number : ℕ
  pub wanted : JoinsFlight w w' c old wish may.place number ⊎ LeadsFlight w w' c old wish may.place number

-- want, by some wish
abbrev pub Wants : ℕ → World → World → Type 0
Wants c w w' = (wish : Wish) × WantsAs wish c w w'

-- job put: the right in the hand goes to the end of the job list
pub record PutsJob (c : ℕ) (w w' : World) : Type 0 where
  pub old : Connection
  pub here : slice_get w.connections c ≡ Some old
  pub ticket : Ticket
  pub number : ℕ
  pub held : old.hand ≡ WithRight ticket number
  pub room : length w.jobs < JOBS
  pub after : w' ≡ record w {
    jobs = w.jobs ++ number ∷ [];
    connections = slice_set w.connections c (record old { hand = WithTicket ticket });
  }

-- the ticket in the hand, with no right beside it, goes to the end of the lane
pub record PutsHand (old new : Connection) : Type 0 where
  pub room : length old.lane < TICKETS
  pub ticket : Ticket
  pub held : old.hand ≡ WithTicket ticket
  pub after : new ≡ record old { hand = Empty; lane = old.lane ++ ticket ∷ [] }

-- this wish, a fault or a hit, arrives at an empty hand, and goes to the end of the lane as a ready ticket
pub record PutsReady (wish : Wish) (old new : Connection) : Type 0 where
  pub room : length old.lane < TICKETS
  pub arrives : MayArrive old
  pub after : new ≡ record old { arrived = old.arrived ++ wish ∷ []; lane = old.lane ++ ready wish ∷ [] }

-- lane put: a ticket goes to the end of the lane
abbrev pub PutsTicket : Connection → Connection → Type 0
PutsTicket old new = PutsHand old new ⊎ ((wish : Wish) × PutsReady wish old new)

-- job taken: the first job's right goes to a worker with empty hands
pub record TakesJob (v : ℕ) (w w' : World) : Type 0 where
  pub idle : slice_get w.workers v ≡ Some Idle
  pub number : ℕ
  pub rest : List ℕ
  pub first : w.jobs ≡ number ∷ rest
  pub flight : Flight
  pub led : slice_get w.flights number ≡ Some flight
  pub after : w' ≡ record w {
    flights = slice_set w.flights number (record flight { taken = flight.taken + 1 });
    jobs = rest;
    workers = slice_set w.workers v (Filling number);
  }

-- an outcome that a flight of the place may get: an allowed answer, or no memory
abbrev pub MayBring : (ℕ → List ℕ → Answer → Type 0) → Place → Outcome → Type 0
MayBring allowed p Unset = ⊥
MayBring allowed p (Answered a) = ∥ allowed p.group p.key a ∥₁
MayBring allowed p NoMemory = Unit {0}

-- outcome set: the worker's right is spent, and the flight has this outcome
pub record SetsAs (allowed : ℕ → List ℕ → Answer → Type 0) (outcome : Outcome) (v : ℕ) (w w' : World) : Type 0 where
  pub number : ℕ
  pub held : slice_get w.workers v ≡ Some (Filling number)
  pub flight : Flight
  pub led : slice_get w.flights number ≡ Some flight
  pub brought : MayBring allowed flight.place outcome
  pub after : w' ≡ record w {
    flights = slice_set w.flights number (record flight { outcome = outcome; spent = true; sets = flight.sets + 1 });
    workers = slice_set w.workers v (Landing number);
  }

-- outcome set, with some outcome
abbrev pub SetsOutcome : (ℕ → List ℕ → Answer → Type 0) → ℕ → World → World → Type 0
SetsOutcome allowed v w w' = (outcome : Outcome) × SetsAs allowed outcome v w w'

-- landed: the worker, whose right is spent, lands the flight, and its hands are empty
pub record LandsFlight (v : ℕ) (w w' : World) : Type 0 where
  pub number : ℕ
  pub held : slice_get w.workers v ≡ Some (Landing number)
  pub flight : Flight
  pub led : slice_get w.flights number ≡ Some flight
  pub table : State
  pub lands : Lands w.table table flight.place number
  pub after : w' ≡ record w {
    table = table;
    flights = slice_set w.flights number (record flight { landed = flight.landed + 1 });
    workers = slice_set w.workers v Idle;
  }

-- the connection after a reply was written for the ticket, with these tickets left
abbrev pub answered : Connection → List Ticket → Ticket → Option Answer → Connection
answered c rest ticket answer = record c { waiting = rest; written = c.written ++ record { ticket = ticket; answer = answer } ∷ [] }

-- an answer is written, or the write fails and the writer ends; for want of memory it ends
abbrev pub RepliesBy : Outcome → Connection → List Ticket → Ticket → Connection → Type 0
RepliesBy Unset old rest ticket new = ⊥
RepliesBy (Answered a) old rest ticket new = (new ≡ answered old rest ticket (Some a)) ⊎ (new ≡ record old { ended = true })
RepliesBy NoMemory old rest ticket new = new ≡ record old { ended = true }

-- outcome seen: a writer that has not ended sees the outcome of the flight of a ticket that it took and has not answered
pub record SeesOutcome (flights : List Flight) (old new : Connection) : Type 0 where
  pub goes_on : old.ended ≡ false
  pub before : List Ticket
  pub ticket : Ticket
  pub behind : List Ticket
  pub taken : old.waiting ≡ before ++ ticket ∷ behind
  pub number : ℕ
  pub names : ticket.flight ≡ Some number
  pub flight : Flight
  pub led : slice_get flights number ≡ Some flight
  pub replies : RepliesBy flight.outcome old (before ++ behind) ticket new

-- a ticket that names a flight waits; a ready one is answered at once, or the write fails and the writer ends
abbrev pub TakesBy : Option ℕ → Connection → Ticket → Connection → Type 0
TakesBy (Some m) old ticket new = new ≡ record old { waiting = ticket ∷ [] }
TakesBy None old ticket new = (new ≡ answered old [] ticket None) ⊎ (new ≡ record old { waiting = ticket ∷ []; ended = true })

-- a writer that has ended leaves the ticket unanswered; one that has not had no other ticket
abbrev pub TakesAs : Bool → Connection → Ticket → Connection → Type 0
TakesAs true old ticket new = new ≡ record old { waiting = old.waiting ++ ticket ∷ [] }
TakesAs false old ticket new = (old.waiting ≡ []) × TakesBy ticket.flight old ticket new

-- lane taken: the writer takes the lane's first ticket
pub record TakesTicket (old new : Connection) : Type 0 where
  pub ticket : Ticket
  pub rest : List Ticket
  pub first : old.lane ≡ ticket ∷ rest
  pub takes : TakesAs old.ended (record old { lane = rest }) ticket new

-- one connection goes on by this step, and nothing else changes
pub record GoesOn (Step : Connection → Connection → Type 0) (c : ℕ) (w w' : World) : Type 0 where
  pub old : Connection
  pub here : slice_get w.connections c ≡ Some old
  pub new : Connection
  pub step : Step old new
  pub after : w' ≡ record w { connections = slice_set w.connections c new }

-- outcome seen, by the writer of this connection
abbrev pub SeesAt : ℕ → World → World → Type 0
SeesAt c w w' = GoesOn (SeesOutcome w.flights) c w w'

-- the event leads from the world w to the world w'
abbrev pub Happens : (ℕ → List ℕ → Answer → Type 0) → World → Event → World → Type 0
Happens allowed w (Want c) w' = Wants c w w'
Happens allowed w (JobPut c) w' = PutsJob c w w'
Happens allowed w (LanePut c) w' = GoesOn PutsTicket c w w'
Happens allowed w (JobTaken v) w' = TakesJob v w w'
Happens allowed w (OutcomeSet v) w' = SetsOutcome allowed v w w'
Happens allowed w (Landed v) w' = LandsFlight v w w'
Happens allowed w (OutcomeSeen c) w' = SeesAt c w w'
Happens allowed w (LaneTaken c) w' = GoesOn TakesTicket c w w'

-- these events, one after the other, lead from the world w to the world w'
abbrev pub Run : (ℕ → List ℕ → Answer → Type 0) → List Event → World → World → Type 0
Run allowed [] w w' = w' ≡ w
Run allowed (e ∷ es) w w' = (mid : World) × Happens allowed w e mid × Run allowed es mid w'
