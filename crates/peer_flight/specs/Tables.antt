-- What the calls of a table do to the state of single flight.
use Rattle.std.specs.Prelude.{◌≡◌, ℕ, ◌^◌, None, Some, Option, option_map}
use Rattle.std.specs.HashMap.{get}
use Rattle.peer_source.specs.declared.source.Source as Source
use Rattle.peer_flight.specs.SingleFlight.{Place, place_eq, State, Joins, Leads}
use Rattle.peer_flight.specs.declared.table.Table.{Table}
use Rattle.peer_flight.specs.Flights.{FlightId}
use Rattle.peer_flight.specs.declared.table.Ask.{Ask}
use Rattle.peer_flight.specs.declared.table.Ask.TheVariants.{Led, Joined}

-- the state of a table: the flights led so far, and the number of each place's open flight
abbrev pub state_of : {S : Type 0} {g : Source.Ghosts S} → Table S g → State
state_of t = record { number = t.next; live = λ p. option_map (λ f. f.number) (get place_eq t.flights p) }

-- what an ask gave: the open flight, or a new one with its right
abbrev pub Gives : {S : Type 0} → Ask S → State → State → Place → Type 0
Gives (Joined flight) s s' p = Joins s s' p flight.number × (flight.place ≡ p)
Gives (Led flight right) s s' p = Leads s s' p flight.number × (flight.place ≡ p) × (right ≡ flight)

-- the open flight of a place, if there is one: its number, its place and its cell
abbrev pub flight_at : {S : Type 0} {g : Source.Ghosts S} → Table S g → Place → Option FlightId
flight_at t p = get place_eq t.flights p

-- an ask that joined gave the flight that stood at the place and stands there still, and one that led gave the flight that stands
-- there from then on: cell included
abbrev pub Stands : {S : Type 0} {g : Source.Ghosts S} → Ask S → Table S g → Table S g → Place → Type 0
Stands (Joined flight) t t' p = (flight_at t p ≡ Some flight) × (flight_at t' p ≡ Some flight)
Stands (Led flight right) t t' p = flight_at t' p ≡ Some flight

-- every flight is led below this number
abbrev pub MAX_FLIGHTS : ℕ
MAX_FLIGHTS = 2 ^ 62

-- the place has no open flight, and every number was given
pub record IsWorn (s : State) (p : Place) : Type 0 where
  pub number : s.number ≡ MAX_FLIGHTS
  pub none : s.live p ≡ None
