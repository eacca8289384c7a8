-- What a pool is opened with.
use Rattle.std.specs.Prelude.{◌≡◌, ℕ, All, vec_len}
use Rattle.peer_source.specs.declared.source.Source as Source
use Rattle.std.specs.declared.sync.ledger.Ledger as Ledger
use Rattle.crossbeam_queue.specs.Passes.{ruled_capacity}
use Rattle.peer_fill.specs.Counts.{no_asks, no_fills}
use Rattle.peer_fill.specs.Pools.{source_of, IsConnSeatOf, IsFillSeatOf}
use Rattle.peer_fill.specs.Seats.{asks_of, fills_of, HaveAllConns, HaveAllFills}
use Rattle.peer_fill.specs.declared.open.Opened.{Opened}

module _ {S L : Type 0} {g : Source.Ghosts S} {h : Ledger.Ghosts L} where
  -- a pool that calls `called`, with a seat for each of so many workers and connections, which have all
  -- its parts and counted nothing, and with room for 256 jobs
  pub record Opens (called : S) (workers clients : ℕ) (opened : Opened S L g h) : Type 0 where
    pub source : source_of opened.pool ≡ called
    pub fills : vec_len opened.fills ≡ workers
    pub seats : vec_len opened.conns ≡ clients
    pub fills_of_pool : All (IsFillSeatOf opened.pool) opened.fills.items
    pub conns_of_pool : All (IsConnSeatOf opened.pool) opened.conns.items
    pub all_fills : HaveAllFills opened.fills.items
    pub all_conns : HaveAllConns opened.conns.items
    pub none_filled : All (λ s. fills_of s ≡ no_fills) opened.fills.items
    pub none_asked : All (λ s. asks_of s ≡ no_asks) opened.conns.items
    pub room : ruled_capacity opened.pool.jobs ≡ 256
