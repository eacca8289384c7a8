use Rattle.peer_flight.specs.World.{World}
use Rattle.peer_flight.specs.Tables.{state_of}
use Rattle.flight_world.specs.Worlds.{world_of}
use Rattle.flight_world.proofs.Reaching.{lent}
use Rattle.flight_world.proofs.WorldCalls.{wants_where_allowed, wants_refused, wants_reached}
use Rattle.flight_world.proofs.world.World.want.Goals as goal

pub invariant_of-self-2 : goal.invariant_of-self-2
invariant_of-self-2 g c =
    let w : World = world_of c.args.self.now in
    let here = lent w.connections c.args.connection c.in-Some.reader.now c.in-Some.ensures.item.0 c.in-Some.ensures.value in
    record { reached = wants_reached w c.args.wish c.args.connection c.in-Some.reader.now c.want.new.self (state_of c.want.new.table) c.want.new.flights.items here c.in-Some.ensures.value c.want.result c.want.ensures.wanted c.want.ensures.stays c.args.self.now.reached }

pub returns-clause-wanted : goal.returns-clause-wanted
returns-clause-wanted g c =
    let w : World = world_of c.args.self.now in
    let here = lent w.connections c.args.connection c.in-Some.reader.now c.in-Some.ensures.item.0 c.in-Some.ensures.value in
    wants_where_allowed w c.args.wish c.args.connection c.in-Some.reader.now c.want.new.self (state_of c.want.new.table) c.want.new.flights.items here c.in-Some.ensures.value c.want.result c.want.ensures.wanted c.want.ensures.stays

pub returns-clause-refused : goal.returns-clause-refused
returns-clause-refused g c =
    let w : World = world_of c.args.self.now in
    let here = lent w.connections c.args.connection c.in-Some.reader.now c.in-Some.ensures.item.0 c.in-Some.ensures.value in
    wants_refused w c.args.wish c.args.connection c.in-Some.reader.now c.want.new.self (state_of c.want.new.table) c.want.new.flights.items here c.in-Some.ensures.value c.want.result c.want.ensures.stays
