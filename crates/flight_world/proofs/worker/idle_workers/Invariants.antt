use Rattle.std.proofs.Common.{◌≡◌, replicate}
use Rattle.peer_flight.specs.World.{Idle}
use Rattle.flight_world.proofs.worker.idle_workers.Given as goal

abbrev pub invariant-loop-made : goal.invariant-loop-made
invariant-loop-made l = l.workers.items ≡ replicate l._made Idle
