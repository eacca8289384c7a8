-- All seats of a pool, and what its report balances.
use Rattle.std.specs.Prelude.{◌≡◌, ℕ, ◌+◌, All, sum_by}
use Rattle.peer_source.specs.declared.source.Source as Source
use Rattle.std.specs.declared.sync.ledger.Ledger as Ledger
use Rattle.peer_fill.specs.Pools.{IsConnSeatOf, IsFillSeatOf}
use Rattle.peer_fill.specs.Seats.{conn_parts, fill_parts}
use Rattle.peer_fill.specs.declared.close.Report.{Report}
use Rattle.peer_fill.specs.declared.lists.Seats.{Seats}
use Rattle.peer_fill.specs.declared.pool.Pool.{Pool}

module _ {S L : Type 0} {g : Source.Ghosts S} {h : Ledger.Ghosts L} where
  -- the parts of all seats of connections, and of all seats that fill
  abbrev pub all_conn_parts : Seats S L g h → ℕ
  all_conn_parts seats = sum_by conn_parts seats.conns.items

  abbrev pub all_fill_parts : Seats S L g h → ℕ
  all_fill_parts seats = sum_by fill_parts seats.fills.items

  -- all are of the pool
  pub record AreSeatsOf (pool : Pool S L g h) (seats : Seats S L g h) : Type 0 where
    pub conns : All (IsConnSeatOf pool) seats.conns.items
    pub fills : All (IsFillSeatOf pool) seats.fills.items

  -- all are of the pool, and they have so many parts
  pub record HaveParts (pool : Pool S L g h) (c f : ℕ) (seats : Seats S L g h) : Type 0 where
    pub of : AreSeatsOf pool seats
    pub conns : all_conn_parts seats ≡ c
    pub fills : all_fill_parts seats ≡ f

  -- they are of the pool, and have all parts that the old ones had
  abbrev pub ComeBack : Pool S L g h → Seats S L g h → Seats S L g h → Type 0
  ComeBack pool old = HaveParts pool (all_conn_parts old) (all_fill_parts old)

-- each ask was a hit, led a flight or joined one, and each flight that was led was filled, or left
pub record Balances (report : Report) : Type 0 where
  pub each_ask : report.asked ≡ report.hits + report.led + report.joined
  pub each_flight : report.led ≡ report.calls + report.rehits + report.left
