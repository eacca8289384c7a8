-- What a thread that fills is handed.
use Rattle.std.specs.Prelude.{ℕ, Bool, List, IfSome}
use Rattle.peer_source.specs.declared.source.Source as Source
use Rattle.std.specs.declared.sync.ledger.Ledger as Ledger
use Rattle.peer_fill.specs.Pools.{source_of, IsFillSeatOf}
use Rattle.peer_fill.specs.declared.pool.Pool.{Pool}
use Rattle.peer_fetch.specs.Threads.{Allows}
use Rattle.peer_loop.specs.declared.work.FillWork.{FillWork}

module _ {S L : Type 0} {g : Source.Ghosts S} {h : Ledger.Ghosts L} where
  -- the seat is of the pool, and what is fetched are answers that the pool's source may give
  abbrev pub IsFillWorkOf : (List ℕ → List ℕ → Bool → Type 0) → Pool S L g h → FillWork S L g h → Type 0
  IsFillWorkOf carried pool work = IsFillSeatOf pool work.seat × IfSome work.fetcher (λ f. Allows carried (g.answers (source_of pool)) f.thread.plan)
