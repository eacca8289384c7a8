-- What a contract sees of a flight, and what is said of the notes of its cell.
use Rattle.std.specs.Prelude.{ℕ, Option, IfSome}
use Rattle.once_cell.specs.Once.{Agrees}
use Rattle.peer_flight.specs.SingleFlight.{Place}

-- a flight: its number, its place, and the name of its cell
pub record FlightId : Type 0 where
  pub number : ℕ
  pub place : Place
  pub cell : ℕ

-- where both notes know a fill, it is the same one
abbrev pub Agree : {X : Type 0} → Option X → Option X → Type 0
Agree a b = IfSome b (Agrees a)
