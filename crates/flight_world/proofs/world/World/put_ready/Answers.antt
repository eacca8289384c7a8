use Rattle.std.proofs.Common.{inr}
use Rattle.peer_flight.specs.Events.{LanePut, PutsReady}
use Rattle.flight_world.specs.Worlds.{world_of}
use Rattle.flight_world.proofs.Reaching.{ok_where_allowed, reached_at}
use Rattle.flight_world.proofs.world.World.put_ready.Goals as goal

pub invariant_of-self-2 : goal.invariant_of-self-2
invariant_of-self-2 g c = record {
  reached = reached_at (world_of c.args.self.now) c.args.connection c.in-Some.reader.now c.put_ready.new.self c.in-Some.ensures.item.0 c.in-Some.ensures.value (PutsReady c.args.wish) (LanePut c.args.connection)
      (λ w' goes. record { old = goes.old; here = goes.here; new = goes.new; step = inr (c.args.wish, goes.step); after = goes.after })
      c.put_ready.result c.put_ready.ensures.put c.put_ready.ensures.refused c.args.self.now.reached;
}

pub returns-clause-put : goal.returns-clause-put
returns-clause-put g c =
    ok_where_allowed (world_of c.args.self.now) c.args.connection c.in-Some.reader.now c.put_ready.new.self c.in-Some.ensures.item.0 c.in-Some.ensures.value (PutsReady c.args.wish) c.put_ready.result c.put_ready.ensures.put
