-- How the seats of a pool are taken in: what the totals have then, of parts, of counts, and of what was pushed and popped.
use Rattle.std.specs.Prelude.{◌≡◌, ◌+◌, [], List}
use Rattle.peer_source.specs.declared.source.Source as Source
use Rattle.std.specs.declared.sync.ledger.Ledger as Ledger
use Rattle.crossbeam_queue.specs.Passes.{view}
use Rattle.peer_fill.specs.Counts.{no_fills, AddsAsks, AddsFills}
use Rattle.peer_fill.specs.Jobs.{AreJoined}
use Rattle.peer_fill.specs.Seats.{asks_of, fills_of, conn_parts, fill_parts}
use Rattle.peer_fill.specs.Totals.{ArePushedBy, ArePoppedBy, IsTotalOfConns, IsTotalOfFills}
use Rattle.peer_fill.specs.declared.seats.ConnSeat.{ConnSeat}
use Rattle.peer_fill.specs.declared.seats.FillSeat.{FillSeat}
use Rattle.peer_fill.specs.declared.totals.Totals.{Totals}

module _ {S L : Type 0} {g : Source.Ghosts S} where
  -- a connection's seat more
  pub record AddsConn (old : Totals S L g) (seat : ConnSeat S L g) (new : Totals S L g) : Type 0 where
    pub conn_parts : new.conn_parts ≡ old.conn_parts + conn_parts seat
    pub fill_parts : new.fill_parts ≡ old.fill_parts
    pub asks : AddsAsks old.asks (asks_of seat) new.asks
    pub fills : new.fills ≡ old.fills
    pub pass : AreJoined (view old.pass) (view seat.pass) (view new.pass)

  -- the totals of these seats of connections, which are all, and of no worker's
  pub record GathersConns (seats : List (ConnSeat S L g)) (all : Totals S L g) : Type 0 where
    pub conn_parts : all.conn_parts ≡ 16
    pub fill_parts : all.fill_parts ≡ 0
    pub asks : IsTotalOfConns seats all.asks
    pub fills : all.fills ≡ no_fills
    pub pushed : ArePushedBy seats (view all.pass).pushed
    pub popped : (view all.pass).popped ≡ []

module _ {S L : Type 0} {g : Source.Ghosts S} {h : Ledger.Ghosts L} where
  -- a worker's seat more
  pub record AddsFill (old : Totals S L g) (seat : FillSeat S L g h) (new : Totals S L g) : Type 0 where
    pub conn_parts : new.conn_parts ≡ old.conn_parts
    pub fill_parts : new.fill_parts ≡ old.fill_parts + fill_parts seat
    pub asks : new.asks ≡ old.asks
    pub fills : AddsFills old.fills (fills_of seat) new.fills
    pub pass : AreJoined (view old.pass) (view seat.pass) (view new.pass)

  -- the same totals, with those of these seats of workers, which are all
  pub record GathersFills (seats : List (FillSeat S L g h)) (old new : Totals S L g) : Type 0 where
    pub conn_parts : new.conn_parts ≡ old.conn_parts
    pub fill_parts : new.fill_parts ≡ 16
    pub asks : new.asks ≡ old.asks
    pub fills : IsTotalOfFills seats new.fills
    pub pushed : (view new.pass).pushed ≡ (view old.pass).pushed
    pub popped : ArePoppedBy seats (view new.pass).popped
