-- What contracts see of a pool: its source, and which seats are its own.
use Rattle.peer_source.specs.declared.source.Source as Source
use Rattle.std.specs.declared.sync.ledger.Ledger as Ledger
use Rattle.std.specs.Prelude.{ℕ}
use Rattle.crossbeam_queue.specs.Passes.{IsPassOf, Pass}
use Rattle.peer_fill.specs.declared.jobs.PassLog.{PassLog}
use Rattle.peer_fill.specs.declared.seats.ConnSeat.{ConnSeat}
use Rattle.peer_fill.specs.declared.seats.FillSeat.{FillSeat}
use Rattle.peer_fill.specs.declared.pool.Pool.{Pool}

module _ {S L : Type 0} {g : Source.Ghosts S} {h : Ledger.Ghosts L} where
  -- what it calls
  abbrev pub source_of : Pool S L g h → S
  source_of pool = pool.source

  -- the seat, which has this pass, was dealt out when the pool was opened
  abbrev pub IsSeatOf : {T : Type 0} → (T → Pass ℕ PassLog) → Pool S L g h → T → Type 0
  IsSeatOf pass_of pool seat = IsPassOf pool.jobs (pass_of seat)

  -- the same of a connection's seat, and of a worker's
  abbrev pub IsConnSeatOf : Pool S L g h → ConnSeat S L g → Type 0
  IsConnSeatOf pool seat = IsSeatOf (λ s. s.pass) pool seat

  abbrev pub IsFillSeatOf : Pool S L g h → FillSeat S L g h → Type 0
  IsFillSeatOf pool seat = IsSeatOf (λ s. s.pass) pool seat
