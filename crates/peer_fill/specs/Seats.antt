-- What contracts see of the seats of a pool: what they counted, and their parts.
use Rattle.std.specs.Prelude.{◌≡◌, ℕ, List, Option, sum_by}
use Rattle.peer_source.specs.declared.source.Source as Source
use Rattle.std.specs.declared.sync.ledger.Ledger as Ledger
use Rattle.crossbeam_queue.specs.Passes.{view}
use Rattle.peer_fill.specs.declared.counts.AskCounts.{AskCounts}
use Rattle.peer_fill.specs.declared.counts.FillCounts.{FillCounts}
use Rattle.peer_fill.specs.declared.jobs.Ranked.{Ranked}
use Rattle.peer_fill.specs.declared.seats.ConnSeat.{ConnSeat}
use Rattle.peer_fill.specs.declared.seats.FillSeat.{FillSeat}

module _ {S L : Type 0} {g : Source.Ghosts S} where
  -- what the seat counted
  abbrev pub asks_of : ConnSeat S L g → AskCounts
  asks_of seat = seat.asks

  -- the seat's parts of the pool
  abbrev pub conn_parts : ConnSeat S L g → ℕ
  conn_parts seat = seat.parts

  -- the flights whose jobs it pushed
  abbrev pub pushed_of : ConnSeat S L g → List Ranked
  pushed_of seat = (view seat.pass).pushed

  -- the number of the flight whose job is left with the seat
  abbrev pub left_of : ConnSeat S L g → Option ℕ
  left_of seat = seat.left

  -- it is the same seat of the same pool, whatever it counted
  abbrev pub IsSameConn : ConnSeat S L g → ConnSeat S L g → Type 0
  IsSameConn old new = (new.pass ≡ old.pass) × (conn_parts new ≡ conn_parts old)

  -- it counted nothing more, and the same job is left with it
  abbrev pub IsUnchanged : ConnSeat S L g → ConnSeat S L g → Type 0
  IsUnchanged old new = (asks_of new ≡ asks_of old) × (left_of new ≡ left_of old)

  -- these are all seats of the connections: they have all 16 parts
  abbrev pub HaveAllConns : List (ConnSeat S L g) → Type 0
  HaveAllConns seats = sum_by conn_parts seats ≡ 16

module _ {S L : Type 0} {g : Source.Ghosts S} {h : Ledger.Ghosts L} where
  -- what the seat counted
  abbrev pub fills_of : FillSeat S L g h → FillCounts
  fills_of seat = seat.fills

  -- the seat's parts of the pool
  abbrev pub fill_parts : FillSeat S L g h → ℕ
  fill_parts seat = seat.parts

  -- the flights whose jobs it popped
  abbrev pub popped_of : FillSeat S L g h → List Ranked
  popped_of seat = (view seat.pass).popped

  -- these are all seats of the workers: they have all 16 parts
  abbrev pub HaveAllFills : List (FillSeat S L g h) → Type 0
  HaveAllFills seats = sum_by fill_parts seats ≡ 16
