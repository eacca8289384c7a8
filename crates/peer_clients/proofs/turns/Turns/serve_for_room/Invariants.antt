use Rattle.std.specs.Prelude.{◌≡◌}
use Rattle.peer_clients.specs.Parts.{KeepsParts}
use Rattle.peer_clients.proofs.turns.Turns.serve_for_room.Given as goal

abbrev pub invariant-loop : goal.invariant-loop
invariant-loop g l = (l.seat.pool.now ≡ l.fn.seat.pool.now) × KeepsParts l.fn.seat.seats l.seat.seats
