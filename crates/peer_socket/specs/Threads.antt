-- The threads of a server: what their seats and those that are left have together.
use Rattle.std.specs.Prelude.{◌≡◌, ℕ, ◌+◌, ◌≤◌, [], All, sum_by, vec_len, vec_capacity}
use Rattle.std.specs.Global.{Vec}
use Rattle.std.specs.declared.thread.PromisedHandle.{PromisedHandle}
use Rattle.peer_source.specs.declared.source.Source as Source
use Rattle.std.specs.declared.sync.ledger.Ledger as Ledger
use Rattle.peer_fill.specs.Keeping.{handed}
use Rattle.peer_fill.specs.Lists.{AreSeatsOf}
use Rattle.peer_fill.specs.Pools.{IsConnSeatOf, IsFillSeatOf}
use Rattle.peer_fill.specs.Seats.{conn_parts, fill_parts}
use Rattle.peer_fill.specs.declared.pool.Pool.{Pool}
use Rattle.peer_fill.specs.declared.keeping.Keeps.{Keeps}
use Rattle.peer_socket.specs.declared.threads.ServerThreads.{ServerThreads}

module _ {S L T : Type 0} {g : Source.Ghosts S} {h : Ledger.Ghosts L} where
  -- seats of one kind that are left, and threads that have others, are of the pool, and the list has room for all
  pub record AreDealt (Own : T → Type 0) (pool : Pool S L g h) (left : Vec T)
      (handles : Vec (PromisedHandle T (Keeps S L T g h))) : Type 0 where
    pub seats : All Own left.items
    pub threads : All (λ x. x.promise.pool.now ≡ pool) handles.items
    pub room : vec_len left + vec_len handles ≤ vec_capacity left

  -- the parts of both
  abbrev pub all_parts : (T → ℕ) → Vec T → Vec (PromisedHandle T (Keeps S L T g h)) → ℕ
  all_parts parts_of left handles = sum_by parts_of left.items + handed parts_of handles.items

module _ {S L : Type 0} {g : Source.Ghosts S} {h : Ledger.Ghosts L} where
  -- the parts of all seats of connections, and of all seats that fill
  abbrev pub all_conns : ServerThreads S L g h → ℕ
  all_conns threads = all_parts conn_parts threads.seats.conns threads.serving

  abbrev pub all_fills : ServerThreads S L g h → ℕ
  all_fills threads = all_parts fill_parts threads.seats.fills threads.working

  -- the seats are of the pool, and no thread was started
  pub record AreNew (threads : ServerThreads S L g h) : Type 0 where
    pub seats : AreSeatsOf threads.pool.now threads.seats
    pub serving : threads.serving.items ≡ []
    pub working : threads.working.items ≡ []

  -- seats were dealt to threads
  pub record AreStarted (threads : ServerThreads S L g h) : Type 0 where
    pub conns : AreDealt (IsConnSeatOf threads.pool.now) threads.pool.now threads.seats.conns threads.serving
    pub fills : AreDealt (IsFillSeatOf threads.pool.now) threads.pool.now threads.seats.fills threads.working

  -- they have the parts that they had
  pub record KeepAll (old new : ServerThreads S L g h) : Type 0 where
    pub are : AreStarted new
    pub pool : new.pool.now ≡ old.pool.now
    pub conns : all_conns new ≡ all_conns old
    pub fills : all_fills new ≡ all_fills old
