use Rattle.std.specs.Prelude.{◌≡◌}
use Rattle.peer_clients.specs.Parts.{KeepsParts}
use Rattle.peer_clients.proofs.seat.LoopSeat.publish_asks.Given as goal

abbrev pub invariant-loop : goal.invariant-loop
invariant-loop g l = (l.self.pool.now ≡ l.fn.self.pool.now) × KeepsParts l.fn.self.seats l.self.seats
