use Rattle.peer_flight.specs.Events.{LaneTaken, TakesTicket}
use Rattle.flight_world.specs.Worlds.{world_of}
use Rattle.flight_world.proofs.Reaching.{ok_where_allowed, reached_at}
use Rattle.flight_world.proofs.world.World.take_ticket.Goals as goal

pub invariant_of-self-2 : goal.invariant_of-self-2
invariant_of-self-2 g c = record {
  reached = reached_at (world_of c.args.self.now) c.args.connection c.in-Some.writer.now c.take_ticket.new.self c.in-Some.ensures.item.0 c.in-Some.ensures.value TakesTicket (LaneTaken c.args.connection)
      (λ w' goes. goes)
      c.take_ticket.result c.take_ticket.ensures.took c.take_ticket.ensures.refused c.args.self.now.reached;
}

pub returns-clause-took : goal.returns-clause-took
returns-clause-took g c =
    ok_where_allowed (world_of c.args.self.now) c.args.connection c.in-Some.writer.now c.take_ticket.new.self c.in-Some.ensures.item.0 c.in-Some.ensures.value TakesTicket c.take_ticket.result c.take_ticket.ensures.took
