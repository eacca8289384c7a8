-- The threads of a server: what their seats and those that are left have together, while the threads are started.
use Rattle.std.specs.Prelude.{◌≡◌, ℕ, ◌+◌, ◌≤◌, Bool, List, [], All, IfSome, vec_len, vec_capacity}
use Rattle.peer_source.specs.declared.source.Source as Source
use Rattle.std.specs.declared.sync.ledger.Ledger as Ledger
use Rattle.peer_fill.specs.Keeping.{handed}
use Rattle.peer_fill.specs.Lists.{all_conn_parts, all_fill_parts, AreSeatsOf}
use Rattle.peer_fill.specs.Pools.{source_of}
use Rattle.peer_fill.specs.Seats.{fill_parts}
use Rattle.peer_fetch.specs.Threads.{Allows}
use Rattle.peer_loop.specs.Parts.{handed_conns, handed_fills}
use Rattle.peer_loop.specs.declared.server_threads.ServerThreads.{ServerThreads}

module _ {S L : Type 0} {g : Source.Ghosts S} {h : Ledger.Ghosts L} where
  -- the parts of all seats of connections, and of all seats that fill: of those that are left, and of those that threads have
  abbrev pub all_conns : ServerThreads S L g h → ℕ
  all_conns threads = all_conn_parts threads.seats + handed_conns threads.serving.items

  abbrev pub all_fills : ServerThreads S L g h → ℕ
  all_fills threads = all_fill_parts threads.seats + handed_fills threads.serving.items + handed fill_parts threads.working.items

  -- what is fetched are answers that the pool's source may give
  abbrev pub MayFetch : (List ℕ → List ℕ → Bool → Type 0) → ServerThreads S L g h → Type 0
  MayFetch carried threads = IfSome threads.parts.fillers.plan (Allows carried (g.answers (source_of threads.pool.now)))

  -- the seats are of the pool, and no thread was started
  pub record AreNew (carried : List ℕ → List ℕ → Bool → Type 0) (threads : ServerThreads S L g h) : Type 0 where
    pub seats : AreSeatsOf threads.pool.now threads.seats
    pub allows : MayFetch carried threads
    pub serving : threads.serving.items ≡ []
    pub working : threads.working.items ≡ []

  -- seats and threads are of the pool, and there is room for the threads, and for what they give back
  pub record AreStarting (carried : List ℕ → List ℕ → Bool → Type 0) (threads : ServerThreads S L g h) : Type 0 where
    pub seats : AreSeatsOf threads.pool.now threads.seats
    pub allows : MayFetch carried threads
    pub serving : All (λ x. x.promise.pool.now ≡ threads.pool.now) threads.serving.items
    pub working : All (λ x. x.promise.pool.now ≡ threads.pool.now) threads.working.items
    pub serve_room : vec_len threads.seats.conns + vec_len threads.serving ≤ vec_capacity threads.serving
    pub work_room : vec_len threads.seats.fills + vec_len threads.working ≤ vec_capacity threads.working
    pub conn_room : vec_len threads.seats.conns + vec_len threads.serving ≤ vec_capacity threads.seats.conns
    pub fill_room : vec_len threads.seats.fills + vec_len threads.seats.conns + vec_len threads.serving + vec_len threads.working
        ≤ vec_capacity threads.seats.fills

  -- it has the parts that it had
  pub record KeepAll (carried : List ℕ → List ℕ → Bool → Type 0) (old new : ServerThreads S L g h) : Type 0 where
    pub is : AreStarting carried new
    pub pool : new.pool.now ≡ old.pool.now
    pub conns : all_conns new ≡ all_conns old
    pub fills : all_fills new ≡ all_fills old
