use Rattle.std.proofs.Common.{inl}
use Rattle.peer_flight.specs.Events.{LanePut, PutsHand}
use Rattle.flight_world.specs.Worlds.{world_of}
use Rattle.flight_world.proofs.Reaching.{ok_where_allowed, reached_at}
use Rattle.flight_world.proofs.world.World.put_ticket.Goals as goal

pub invariant_of-self-2 : goal.invariant_of-self-2
invariant_of-self-2 g c = record {
  reached = reached_at (world_of c.args.self.now) c.args.connection c.in-Some.reader.now c.put_ticket.new.self c.in-Some.ensures.item.0 c.in-Some.ensures.value PutsHand (LanePut c.args.connection)
      (λ w' goes. record { old = goes.old; here = goes.here; new = goes.new; step = inl goes.step; after = goes.after })
      c.put_ticket.result c.put_ticket.ensures.put c.put_ticket.ensures.refused c.args.self.now.reached;
}

pub returns-clause-put : goal.returns-clause-put
returns-clause-put g c =
    ok_where_allowed (world_of c.args.self.now) c.args.connection c.in-Some.reader.now c.put_ticket.new.self c.in-Some.ensures.item.0 c.in-Some.ensures.value PutsHand c.put_ticket.result c.put_ticket.ensures.put
