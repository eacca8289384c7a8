-- What contracts see of the seats that are lent to a call.
use Rattle.peer_source.specs.declared.source.Source as Source
use Rattle.std.specs.declared.sync.ledger.Ledger as Ledger
use Rattle.peer_fill.specs.Pools.{IsConnSeatOf, IsFillSeatOf}
use Rattle.peer_fill.specs.declared.pool.Pool.{Pool}
use Rattle.refused.specs.declared.lent.LentSeats.{LentSeats}

module _ {S L : Type 0} {g : Source.Ghosts S} {h : Ledger.Ghosts L} where
  -- both were dealt out when the pool was opened
  abbrev pub AreOf : Pool S L g h → LentSeats S L g h → Type 0
  AreOf pool seats = IsFillSeatOf pool seats.fill × IsConnSeatOf pool seats.conn
