use Rattle.std.proofs.Common.{subst}
use Rattle.peer_flight.specs.World.{World}
use Rattle.peer_flight.specs.Events.{OutcomeSeen, SeesOutcome}
use Rattle.flight_world.specs.Worlds.{world_of}
use Rattle.flight_world.proofs.Reaching.{lent, ok_where_allowed, reached_at}
use Rattle.flight_world.proofs.WorldCalls.{Saw, sees_where_allowed, sees_at}
use Rattle.flight_world.proofs.world.World.see_outcome.Goals as goal

pub invariant_of-self-2 : goal.invariant_of-self-2
invariant_of-self-2 g c =
    let w : World = world_of c.args.self.now in
    let here = lent w.connections c.args.connection c.in-Some.writer.now c.in-Some.ensures.item.0 c.in-Some.ensures.value in
    let is_seen = subst (λ fs. Saw fs c.in-Some.writer.now c.see_outcome.new.self c.see_outcome.result) c.deref.ensures.value c.see_outcome.ensures.seen in
    let saw = sees_where_allowed w c.args.connection c.in-Some.writer.now c.see_outcome.new.self c.see_outcome.result c.args.self.now.reached here is_seen in
    record {
      reached = reached_at w c.args.connection c.in-Some.writer.now c.see_outcome.new.self c.in-Some.ensures.item.0 c.in-Some.ensures.value (SeesOutcome w.flights) (OutcomeSeen c.args.connection)
          (λ w' goes. goes) c.see_outcome.result saw c.see_outcome.ensures.refused c.args.self.now.reached;
    }

pub returns-clause-seen : goal.returns-clause-seen
returns-clause-seen g c =
    let w : World = world_of c.args.self.now in
    let here = lent w.connections c.args.connection c.in-Some.writer.now c.in-Some.ensures.item.0 c.in-Some.ensures.value in
    let is_seen = subst (λ fs. Saw fs c.in-Some.writer.now c.see_outcome.new.self c.see_outcome.result) c.deref.ensures.value c.see_outcome.ensures.seen in
    let saw = sees_where_allowed w c.args.connection c.in-Some.writer.now c.see_outcome.new.self c.see_outcome.result c.args.self.now.reached here is_seen in
    sees_at w c.args.connection _ c.see_outcome.result
    (ok_where_allowed w c.args.connection c.in-Some.writer.now c.see_outcome.new.self c.in-Some.ensures.item.0 c.in-Some.ensures.value (SeesOutcome w.flights) c.see_outcome.result saw)
