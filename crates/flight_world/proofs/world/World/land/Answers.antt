use Rattle.std.proofs.Common.{◌≡◌, ◌+◌, ap, subst, arith}
use Rattle.peer_flight.specs.SingleFlight.{Place, Lands}
use Rattle.peer_flight.specs.World.{World, Flight}
use Rattle.peer_flight.specs.Events.{Landed, LandsFlight}
use Rattle.peer_flight.specs.Tables.{state_of}
use Rattle.flight_world.specs.Worlds.{world_of}
use Rattle.flight_world.proofs.Reaching.{lent, reached_after}
use Rattle.flight_world.proofs.WorldCalls.{none_past, refuses_worker, landed_once, lands_flight, lands_nothing, lands_no_flight}
use Rattle.flight_world.proofs.world.World.land.Goals as goal

pub returns-in_default-landing : goal.returns-in_default-landing
returns-in_default-landing g c =
    let w : World = world_of c.args.self.now in
    let here = lent w.workers c.args.worker c.in-Some.lander.now c.in-Some.ensures.item.0 c.in-Some.ensures.value in
    refuses_worker w (LandsFlight c.args.worker) c.args.worker c.in-Some.lander.now c.in-Some.ensures.value
    (lands_nothing w c.args.worker c.in-Some.lander.now here c.in_default-landing.ensures)

pub returns-in_default-get_mut : goal.returns-in_default-get_mut
returns-in_default-get_mut g c =
    let w : World = world_of c.args.self.now in
    let here = lent w.workers c.args.worker c.in-Some.lander.now c.in-Some.ensures.item.0 c.in-Some.ensures.value in
    let none = none_past w.flights c.in-Some-landing.number c.in_default-get_mut.ensures.item.2 in
    refuses_worker w (LandsFlight c.args.worker) c.args.worker c.in-Some.lander.now c.in-Some.ensures.value
    (lands_no_flight w c.args.worker c.in-Some.lander.now here c.in-Some-landing.number c.in-Some-landing.ensures none)

pub overflow_add-flight : goal.overflow_add-flight
overflow_add-flight g c =
    let w : World = world_of c.args.self.now in
    let led = lent w.flights c.in-Some-landing.number c.in-Some-get_mut.flight.now c.in-Some-get_mut.ensures.item.0 c.in-Some-get_mut.ensures.value in
    let once = landed_once w c.args.self.now.reached c.in-Some-landing.number c.in-Some-get_mut.flight.now led in
    let same : c.flight.inside.landed ≡ c.in-Some-get_mut.flight.now.landed = ap (λ (f : Flight). f.landed) c.flight.view_is in
    omega arith

pub invariant_of-self-2 : goal.invariant_of-self-2
invariant_of-self-2 g c =
    let w : World = world_of c.args.self.now in
    let here = lent w.workers c.args.worker c.in-Some.lander.now c.in-Some.ensures.item.0 c.in-Some.ensures.value in
    let led = lent w.flights c.in-Some-landing.number c.in-Some-get_mut.flight.now c.in-Some-get_mut.ensures.item.0 c.in-Some-get_mut.ensures.value in
    let lands = subst (λ (p : Place). Lands w.table (state_of c.land_at.new.self) p c.in-Some-landing.number) c.place.ensures c.land_at.ensures.lands in
    let landed = lands_flight w c.args.worker c.in-Some.lander.now here c.in-Some-landing.number c.in-Some-get_mut.flight.now _ (state_of c.land_at.new.self)
    c.in-Some-landing.ensures led lands (ap (λ (f : Flight). record f { landed = f.landed + 1 }) c.flight.view_is) in
    record { reached = reached_after w _ (Landed c.args.worker) c.args.self.now.reached landed }

pub returns : goal.returns
returns g c =
    let w : World = world_of c.args.self.now in
    let here = lent w.workers c.args.worker c.in-Some.lander.now c.in-Some.ensures.item.0 c.in-Some.ensures.value in
    let led = lent w.flights c.in-Some-landing.number c.in-Some-get_mut.flight.now c.in-Some-get_mut.ensures.item.0 c.in-Some-get_mut.ensures.value in
    let lands = subst (λ (p : Place). Lands w.table (state_of c.land_at.new.self) p c.in-Some-landing.number) c.place.ensures c.land_at.ensures.lands in
    lands_flight w c.args.worker c.in-Some.lander.now here c.in-Some-landing.number c.in-Some-get_mut.flight.now _ (state_of c.land_at.new.self)
    c.in-Some-landing.ensures led lands (ap (λ (f : Flight). record f { landed = f.landed + 1 }) c.flight.view_is)
