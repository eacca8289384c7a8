use Rattle.std.proofs.Common.{◌≡◌, ◌+◌, ◌∙◌, ap, sym, arith}
use Rattle.std.proofs.lemmas.Bool.{ltb-true, true≢false}
use Rattle.peer_flight.specs.World.{World, Flight}
use Rattle.peer_flight.specs.Events.{JobTaken, TakesJob}
use Rattle.flight_world.specs.Worlds.{world_of}
use Rattle.flight_world.proofs.Reaching.{lent, reached_after}
use Rattle.flight_world.proofs.WorldCalls.{none_past, first_rest, refuses_worker, refuses_both, taken_once, takes_job, takes_no_flight, takes_with_full_hands}
use Rattle.flight_world.proofs.world.World.take_job.Goals as goal

pub returns-in_default-get_mut : goal.returns-in_default-get_mut
returns-in_default-get_mut g c =
    let w : World = world_of c.args.self.now in
    let number = c.in-Some-front.number.now in
    let none = none_past w.flights number c.in_default-get_mut.ensures.item.2 in
    refuses_worker w (TakesJob c.args.worker) c.args.worker c.in-Some.taker.now c.in-Some.ensures.value
    (takes_no_flight w c.args.worker number c.in-Some-front.ensures.lookup none)

pub returns-then-not-is_idle : goal.returns-then-not-is_idle
returns-then-not-is_idle g c =
    let w : World = world_of c.args.self.now in
    let here = lent w.workers c.args.worker c.in-Some.taker.now c.in-Some.ensures.item.0 c.in-Some.ensures.value in
    refuses_both w (TakesJob c.args.worker) c.args.worker c.in-Some-front.number.now c.in-Some.taker.now c.in-Some-get_mut.flight.now c.in-Some.ensures.value c.in-Some-get_mut.ensures.value
    (takes_with_full_hands w c.args.worker c.in-Some.taker.now here (λ idle. true≢false (sym (c.is_idle.ensures.1 idle) ∙ c.if-not-is_idle.true)))

pub overflow_add-flight : goal.overflow_add-flight
overflow_add-flight g c =
    let w : World = world_of c.args.self.now in
    let led = lent w.flights c.in-Some-front.number.now c.in-Some-get_mut.flight.now c.in-Some-get_mut.ensures.item.0 c.in-Some-get_mut.ensures.value in
    let once = taken_once w c.args.self.now.reached c.in-Some-front.number.now c.in-Some-get_mut.flight.now led in
    let same : c.flight.inside.taken ≡ c.in-Some-get_mut.flight.now.taken = ap (λ (f : Flight). f.taken) c.flight.view_is in
    omega arith

pub invariant_of-self-2 : goal.invariant_of-self-2
invariant_of-self-2 g c =
    let w : World = world_of c.args.self.now in
    let here = lent w.workers c.args.worker c.in-Some.taker.now c.in-Some.ensures.item.0 c.in-Some.ensures.value in
    let led = lent w.flights c.in-Some-front.number.now c.in-Some-get_mut.flight.now c.in-Some-get_mut.ensures.item.0 c.in-Some-get_mut.ensures.value in
    let first = first_rest w.jobs c.pop_front-first.new.self.items c.in-Some-front.number.now (ltb-true _ _ (sym c.in-Some-front.ensures.item.0)) c.in-Some-front.ensures.lookup c.pop_front-first.ensures.rest in
    let took = takes_job w c.args.worker c.in-Some-front.number.now c.in-Some.taker.now c.in-Some-get_mut.flight.now _ c.pop_front-first.new.self.items here
    (c.is_idle.ensures.0 c.if-not-is_idle.false) led first (ap (λ (f : Flight). record f { taken = f.taken + 1 }) c.flight.view_is) in
    record { reached = reached_after w _ (JobTaken c.args.worker) c.args.self.now.reached took }

pub returns : goal.returns
returns g c =
    let w : World = world_of c.args.self.now in
    let here = lent w.workers c.args.worker c.in-Some.taker.now c.in-Some.ensures.item.0 c.in-Some.ensures.value in
    let led = lent w.flights c.in-Some-front.number.now c.in-Some-get_mut.flight.now c.in-Some-get_mut.ensures.item.0 c.in-Some-get_mut.ensures.value in
    let first = first_rest w.jobs c.pop_front-first.new.self.items c.in-Some-front.number.now (ltb-true _ _ (sym c.in-Some-front.ensures.item.0)) c.in-Some-front.ensures.lookup c.pop_front-first.ensures.rest in
    takes_job w c.args.worker c.in-Some-front.number.now c.in-Some.taker.now c.in-Some-get_mut.flight.now _ c.pop_front-first.new.self.items here
    (c.is_idle.ensures.0 c.if-not-is_idle.false) led first (ap (λ (f : Flight). record f { taken = f.taken + 1 }) c.flight.view_is)
