-- How the seats of loops are taken off the lists of a pool's seats, and what comes back of them.
use Rattle.std.specs.Prelude.{◌≡◌, ℕ, ◌+◌, ◌≤◌, List, Option, Some, None, sum_by, vec_len, vec_capacity}
use Rattle.std.specs.Global.{Vec}
use Rattle.std.specs.declared.thread.PromisedHandle.{PromisedHandle}
use Rattle.peer_source.specs.declared.source.Source as Source
use Rattle.std.specs.declared.sync.ledger.Ledger as Ledger
use Rattle.peer_fill.specs.Seats.{conn_parts}
use Rattle.peer_fill.specs.Lists.{all_conn_parts, all_fill_parts, AreSeatsOf}
use Rattle.peer_fill.specs.declared.lists.Seats.{Seats}
use Rattle.peer_fill.specs.declared.pool.Pool.{Pool}
use Rattle.peer_clients.specs.Parts.{filling_parts}
use Rattle.peer_clients.specs.declared.loop_seats.LoopSeats.{LoopSeats}
use Rattle.peer_loop.specs.declared.dealing.KeepsLoop.{KeepsLoop}

module _ {S L : Type 0} {g : Source.Ghosts S} {h : Ledger.Ghosts L} where
  -- the lists have the same room
  abbrev pub KeepsRoom : Seats S L g h → Seats S L g h → Type 0
  KeepsRoom old new = (vec_capacity new.conns ≡ vec_capacity old.conns) × (vec_capacity new.fills ≡ vec_capacity old.fills)

  -- these seats were taken off the lists
  pub record TakesLoop (old new : Seats S L g h) (own : LoopSeats S L g h) : Type 0 where
    pub conn : all_conn_parts old ≡ all_conn_parts new + conn_parts own.conn
    pub fill : all_fill_parts old ≡ all_fill_parts new + filling_parts own.fill
    pub fewer : vec_len old.conns ≡ vec_len new.conns + 1
    pub no_more : vec_len new.fills ≤ vec_len old.fills
    pub room : KeepsRoom old new

  -- a loop's seats were taken off the lists, or there were none for another loop
  abbrev pub Takes : Seats S L g h → Seats S L g h → Option (LoopSeats S L g h) → Type 0
  Takes old new (Some own) = TakesLoop old new own
  Takes old new None = (vec_len new.conns ≡ 0) × (all_conn_parts old ≡ all_conn_parts new)
      × (all_fill_parts old ≡ all_fill_parts new) × KeepsRoom old new

  -- what the loops were handed of the seats of connections, and of the seats that fill
  abbrev pub handed_conns : List (PromisedHandle (LoopSeats S L g h) (KeepsLoop S L g h)) → ℕ
  handed_conns handles = sum_by (λ x. conn_parts x.promise.seats.value.conn) handles

  abbrev pub handed_fills : List (PromisedHandle (LoopSeats S L g h) (KeepsLoop S L g h)) → ℕ
  handed_fills handles = sum_by (λ x. filling_parts x.promise.seats.value.fill) handles

  -- the seats that loops were handed are on the lists again
  pub record TakesBack (pool : Pool S L g h) (old new : Seats S L g h)
      (serving : Vec (PromisedHandle (LoopSeats S L g h) (KeepsLoop S L g h))) : Type 0 where
    pub of : AreSeatsOf pool new
    pub conn : all_conn_parts new ≡ all_conn_parts old + handed_conns serving.items
    pub fill : all_fill_parts new ≡ all_fill_parts old + handed_fills serving.items
    pub len : vec_len new.fills ≤ vec_len old.fills + vec_len serving
    pub room : vec_capacity old.fills ≤ vec_capacity new.fills
