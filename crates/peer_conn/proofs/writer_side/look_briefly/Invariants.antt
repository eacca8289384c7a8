use Rattle.std.specs.Prelude.{◌≡◌, None, option_map}
use Rattle.peer_flight.specs.Claims.{claim_cell, known_of}
use Rattle.peer_conn.proofs.writer_side.look_briefly.Given as goal

abbrev pub invariant-loop : goal.invariant-loop
invariant-loop g l = record {
  cell : option_map (λ note. note.cell) l.note ≡ claim_cell l.claim;
  known : known_of l.note ≡ None;
}
