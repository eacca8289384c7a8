use Rattle.peer_flight.specs.World.{World}
use Rattle.peer_flight.specs.SingleFlight.{no_flights}
use Rattle.peer_flight.specs.Tables.{state_of}
use Rattle.flight_world.proofs.Reaching.{same_state, reached_start}
use Rattle.flight_world.proofs.world.World.new.Goals as goal

pub invariant_of-result : goal.invariant_of-result
invariant_of-result g c =
    let w : World = record {
      table = state_of c.new.result;
      flights = c.new-2.result.items;
      jobs = c.new-3.result.items;
      workers = c.in_ok-workers.workers.items;
      connections = c.in_ok-connections.connections.items;
    } in
    record {
      reached = reached_start c.args.workers c.args.connections w (λ i. record {
        table = same_state no_flights (state_of c.new.result) c.new.ensures i;
        flights = c.new-2.ensures.items i;
        jobs = c.new-3.ensures.items i;
        workers = c.in_ok-workers.ensures i;
        connections = c.in_ok-connections.ensures i;
      });
    }
