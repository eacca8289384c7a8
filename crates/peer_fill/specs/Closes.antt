-- What an ended pool leaves, and what a refused close hands back.
use Rattle.std.specs.Prelude.{◌≡◌, ℕ, ◌+◌, List, length}
use Rattle.std.specs.Global.{Vec}
use Rattle.peer_source.specs.declared.source.Source as Source
use Rattle.std.specs.declared.sync.ledger.Ledger as Ledger
use Rattle.crossbeam_queue.specs.Passes.{view}
use Rattle.peer_flight.specs.Tables.{state_of}
use Rattle.peer_fill.specs.Jobs.{HasInOrder}
use Rattle.peer_fill.specs.Totals.{ArePushedBy, ArePoppedBy, IsTotalOfConns, IsTotalOfFills}
use Rattle.peer_fill.specs.declared.counts.AskCounts.{AskCounts}
use Rattle.peer_fill.specs.declared.counts.FillCounts.{FillCounts}
use Rattle.peer_fill.specs.declared.jobs.Ranked.{Ranked}
use Rattle.peer_fill.specs.declared.seats.ConnSeat.{ConnSeat}
use Rattle.peer_fill.specs.declared.seats.FillSeat.{FillSeat}
use Rattle.peer_fill.specs.declared.pool.Pool.{Pool}
use Rattle.peer_fill.specs.declared.closed.Closed.{Closed}
use Rattle.peer_fill.specs.declared.close.CloseFault.{CloseFault}
use Rattle.peer_fill.specs.declared.close.CloseFault.TheVariants.{SeatsMissing}

module _ {S L : Type 0} {g : Source.Ghosts S} {h : Ledger.Ghosts L} where
  -- the pool and the seats that were handed in
  abbrev pub HandsBack : CloseFault S L g h → Pool S L g h → Vec (FillSeat S L g h) → Vec (ConnSeat S L g) → Type 0
  HandsBack (SeatsMissing pool fills conns) p f c = (pool ≡ p) × (fills ≡ f) × (conns ≡ c)

  -- what the seats of the connections counted
  abbrev pub asks_in : Closed S L g h → AskCounts
  asks_in closed = closed.totals.asks

  -- what the seats of the workers counted
  abbrev pub fills_in : Closed S L g h → FillCounts
  fills_in closed = closed.totals.fills

  -- how many flights its table has led
  abbrev pub flights_in : Closed S L g h → ℕ
  flights_in closed = (state_of closed.table.table).number

  -- what was pushed, and what was popped
  abbrev pub pushed_in : Closed S L g h → List Ranked
  pushed_in closed = (view closed.totals.pass).pushed

  abbrev pub popped_in : Closed S L g h → List Ranked
  popped_in closed = (view closed.totals.pass).popped

  -- an ended pool has what these seats counted, pushed and popped
  pub record Gathers (workers : List (FillSeat S L g h)) (clients : List (ConnSeat S L g)) (closed : Closed S L g h) : Type 0 where
    pub asks : IsTotalOfConns clients (asks_in closed)
    pub fills : IsTotalOfFills workers (fills_in closed)
    pub pushed : ArePushedBy clients (pushed_in closed)
    pub popped : ArePoppedBy workers (popped_in closed)

  -- so many jobs are left: those that are queued, oldest first, and those that were left with seats
  abbrev pub LeavesJobs : Closed S L g h → ℕ → Type 0
  LeavesJobs closed n = (queued : List ℕ) × HasInOrder queued (view closed.totals.pass) × (n ≡ length queued + closed.totals.left)
