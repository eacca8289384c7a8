-- The seats of one loop, and their parts.
use Rattle.std.specs.Prelude.{◌≡◌, ℕ, Option, Some, None, IfSome}
use Rattle.peer_source.specs.declared.source.Source as Source
use Rattle.std.specs.declared.sync.ledger.Ledger as Ledger
use Rattle.peer_fill.specs.Pools.{IsConnSeatOf, IsFillSeatOf}
use Rattle.peer_fill.specs.Seats.{conn_parts, fill_parts}
use Rattle.peer_fill.specs.declared.pool.Pool.{Pool}
use Rattle.peer_fill.specs.declared.seats.FillSeat.{FillSeat}
use Rattle.peer_clients.specs.declared.loop_seats.LoopSeats.{LoopSeats}

module _ {S L : Type 0} {g : Source.Ghosts S} {h : Ledger.Ghosts L} where
  -- the parts of the seat by which a loop fills, none where it does not
  abbrev pub filling_parts : Option (FillSeat S L g h) → ℕ
  filling_parts None = 0
  filling_parts (Some seat) = fill_parts seat

  -- both are of the pool
  abbrev pub AreOf : Pool S L g h → LoopSeats S L g h → Type 0
  AreOf pool seats = IsConnSeatOf pool seats.conn × IfSome seats.fill (IsFillSeatOf pool)

  -- both have their parts
  abbrev pub KeepsParts : LoopSeats S L g h → LoopSeats S L g h → Type 0
  KeepsParts old new = (conn_parts new.conn ≡ conn_parts old.conn) × (filling_parts new.fill ≡ filling_parts old.fill)
