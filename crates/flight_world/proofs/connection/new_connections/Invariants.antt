use Rattle.std.proofs.Common.{◌≡◌, replicate}
use Rattle.peer_flight.specs.World.{new_connection}
use Rattle.flight_world.proofs.connection.new_connections.Given as goal

abbrev pub invariant-loop-made : goal.invariant-loop-made
invariant-loop-made g l = l.connections.items ≡ replicate l._made new_connection
