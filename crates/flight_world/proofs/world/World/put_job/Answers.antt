use Rattle.std.proofs.Common.{◌∙◌, ◌++◌, [], ◌∷◌, ap, arith}
use Rattle.std.proofs.Math.ListN.{set}
use Rattle.peer_flight.specs.World.{World}
use Rattle.peer_flight.specs.Events.{JobPut}
use Rattle.flight_world.specs.Worlds.{world_of}
use Rattle.flight_world.proofs.Reaching.{lent, set_back, reached_after}
use Rattle.flight_world.proofs.WorldCalls.{puts_job, puts_no_job}
use Rattle.flight_world.proofs.world.World.put_job.Goals as goal

pub returns-in_default-take_right-clause-put : goal.returns-in_default-take_right-clause-put
returns-in_default-take_right-clause-put g c =
    let w : World = world_of c.args.self.now in
    let here = lent w.connections c.args.connection c.in-Some.reader.now c.in-Some.ensures.item.0 c.in-Some.ensures.value in
    let stays = c.in_default-take_right.ensures in
    record {
      same = λ i. record w {
        jobs = c.in_ok-reserve.ensures.items i;
        connections = (ap (set w.connections c.args.connection) stays.0 ∙ set_back w.connections c.args.connection c.in-Some.reader.now c.in-Some.ensures.value) i;
      };
      nowhere = puts_no_job w c.args.connection c.in-Some.reader.now here stays.1;
    }

pub invariant_of-self-2 : goal.invariant_of-self-2
invariant_of-self-2 g c =
    let w : World = world_of c.args.self.now in
    let here = lent w.connections c.args.connection c.in-Some.reader.now c.in-Some.ensures.item.0 c.in-Some.ensures.value in
    let took = c.in-Some-take_right.ensures in
    let more = c.push_back_reserved.ensures.items ∙ ap (λ ns. ns ++ c.in-Some-take_right.number ∷ []) c.in_ok-reserve.ensures.items in
    let put = puts_job w c.args.connection c.in-Some-take_right.number c.in-Some.reader.now c.take_right.new.self took.0 c.push_back_reserved.new.self.items here took.1 took.2 (omega arith) more in
    record { reached = reached_after w _ (JobPut c.args.connection) c.args.self.now.reached put }

pub returns-clause-put : goal.returns-clause-put
returns-clause-put g c =
    let w : World = world_of c.args.self.now in
    let here = lent w.connections c.args.connection c.in-Some.reader.now c.in-Some.ensures.item.0 c.in-Some.ensures.value in
    let took = c.in-Some-take_right.ensures in
    let more = c.push_back_reserved.ensures.items ∙ ap (λ ns. ns ++ c.in-Some-take_right.number ∷ []) c.in_ok-reserve.ensures.items in
    puts_job w c.args.connection c.in-Some-take_right.number c.in-Some.reader.now c.take_right.new.self took.0 c.push_back_reserved.new.self.items here took.1 took.2 (omega arith) more
