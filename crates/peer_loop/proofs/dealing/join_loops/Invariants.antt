use Rattle.std.specs.Prelude.{◌≡◌, ◌+◌, ◌≤◌, All, vec_len, vec_capacity}
use Rattle.peer_fill.specs.Lists.{all_conn_parts, all_fill_parts, AreSeatsOf}
use Rattle.peer_loop.specs.Parts.{handed_conns, handed_fills}
use Rattle.peer_loop.proofs.dealing.join_loops.Given as goal

abbrev pub invariant-loop-handle : goal.invariant-loop-handle
invariant-loop-handle g l = record {
  serving : All (λ h. h.promise.pool.now ≡ l.pool) l.serving.items;
  of : AreSeatsOf l.pool l.seats;
  conn_room : vec_len l.seats.conns + vec_len l.serving ≤ vec_capacity l.seats.conns;
  fill_room : vec_len l.seats.fills + vec_len l.serving ≤ vec_capacity l.seats.fills;
  conn : all_conn_parts l.seats + handed_conns l.serving.items ≡ all_conn_parts l.fn.seats + handed_conns l.initial.serving.items;
  fill : all_fill_parts l.seats + handed_fills l.serving.items ≡ all_fill_parts l.fn.seats + handed_fills l.initial.serving.items;
  len : vec_len l.seats.fills + vec_len l.serving ≤ vec_len l.fn.seats.fills + vec_len l.initial.serving;
  room : vec_capacity l.fn.seats.fills ≤ vec_capacity l.seats.fills;
}

abbrev pub decreases-loop-handle : goal.decreases-loop-handle
decreases-loop-handle g l = vec_len l.serving
