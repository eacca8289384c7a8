use Rattle.std.proofs.Common.{◌≡◌, ◌+◌, ◌∙◌, ap, sym, arith}
use Rattle.std.proofs.lemmas.Bool.{true≢false}
use Rattle.peer_flight.specs.World.{World, Flight}
use Rattle.peer_flight.specs.Events.{OutcomeSet}
use Rattle.flight_world.specs.Views.{SetsFill, outcome_by}
use Rattle.flight_world.specs.Worlds.{world_of}
use Rattle.flight_world.proofs.Reaching.{lent, reached_after}
use Rattle.flight_world.proofs.WorldCalls.{none_past, refuses_worker, refuses_both, sets_once, sets_fill, sets_without_right, sets_no_flight, sets_another_place}
use Rattle.flight_world.proofs.world.World.set_outcome.Goals as goal

pub returns-in_default-filling : goal.returns-in_default-filling
returns-in_default-filling g c =
    let w : World = world_of c.args.self.now in
    let here = lent w.workers c.args.worker c.in-Some.filler.now c.in-Some.ensures.item.0 c.in-Some.ensures.value in
    refuses_worker w (SetsFill g.S.Source.allowed c.args.fill c.args.worker) c.args.worker c.in-Some.filler.now c.in-Some.ensures.value
    (sets_without_right w g.S.Source.allowed c.args.fill c.args.worker c.in-Some.filler.now here c.in_default-filling.ensures)

pub returns-in_default-get_mut : goal.returns-in_default-get_mut
returns-in_default-get_mut g c =
    let w : World = world_of c.args.self.now in
    let here = lent w.workers c.args.worker c.in-Some.filler.now c.in-Some.ensures.item.0 c.in-Some.ensures.value in
    let none = none_past w.flights c.in-Some-filling.number c.in_default-get_mut.ensures.item.2 in
    refuses_worker w (SetsFill g.S.Source.allowed c.args.fill c.args.worker) c.args.worker c.in-Some.filler.now c.in-Some.ensures.value
    (sets_no_flight w g.S.Source.allowed c.args.fill c.args.worker c.in-Some.filler.now here c.in-Some-filling.number c.in-Some-filling.ensures none)

pub returns-then-not-is_of : goal.returns-then-not-is_of
returns-then-not-is_of g c =
    let w : World = world_of c.args.self.now in
    let here = lent w.workers c.args.worker c.in-Some.filler.now c.in-Some.ensures.item.0 c.in-Some.ensures.value in
    let led = lent w.flights c.in-Some-filling.number c.in-Some-get_mut.flight.now c.in-Some-get_mut.ensures.item.0 c.in-Some-get_mut.ensures.value in
    refuses_both w (SetsFill g.S.Source.allowed c.args.fill c.args.worker) c.args.worker c.in-Some-filling.number c.in-Some.filler.now c.in-Some-get_mut.flight.now
    c.in-Some.ensures.value c.in-Some-get_mut.ensures.value
    (sets_another_place w g.S.Source.allowed c.args.fill c.args.worker c.in-Some.filler.now here c.in-Some-filling.number c.in-Some-filling.ensures c.in-Some-get_mut.flight.now led
    (λ of. true≢false (sym (c.is_of.ensures.1 of) ∙ c.if-not-is_of.true)))

pub overflow_add-flight : goal.overflow_add-flight
overflow_add-flight g c =
    let w : World = world_of c.args.self.now in
    let led = lent w.flights c.in-Some-filling.number c.in-Some-get_mut.flight.now c.in-Some-get_mut.ensures.item.0 c.in-Some-get_mut.ensures.value in
    let once = sets_once w c.args.self.now.reached c.in-Some-filling.number c.in-Some-get_mut.flight.now led in
    let same : c.flight.inside.sets ≡ c.in-Some-get_mut.flight.now.sets = ap (λ (f : Flight). f.sets) (c.flight.view_is ∙ c.spend.ensures) in
    omega arith

pub invariant_of-self-2 : goal.invariant_of-self-2
invariant_of-self-2 g c =
    let w : World = world_of c.args.self.now in
    let here = lent w.workers c.args.worker c.in-Some.filler.now c.in-Some.ensures.item.0 c.in-Some.ensures.value in
    let led = lent w.flights c.in-Some-filling.number c.in-Some-get_mut.flight.now c.in-Some-get_mut.ensures.item.0 c.in-Some-get_mut.ensures.value in
    let so = sets_fill w g.S.Source.allowed c.args.fill c.args.worker c.in-Some.filler.now here c.in-Some-filling.number c.in-Some-get_mut.flight.now _ c.law.ensures
    c.in-Some-filling.ensures led (c.is_of.ensures.0 c.if-not-is_of.false) (ap (λ (f : Flight). record f { sets = f.sets + 1 }) (c.flight.view_is ∙ c.spend.ensures)) in
    record { reached = reached_after w _ (OutcomeSet c.args.worker) c.args.self.now.reached (outcome_by c.args.fill.answer, so.sets) }

pub returns : goal.returns
returns g c =
    let w : World = world_of c.args.self.now in
    let here = lent w.workers c.args.worker c.in-Some.filler.now c.in-Some.ensures.item.0 c.in-Some.ensures.value in
    let led = lent w.flights c.in-Some-filling.number c.in-Some-get_mut.flight.now c.in-Some-get_mut.ensures.item.0 c.in-Some-get_mut.ensures.value in
    sets_fill w g.S.Source.allowed c.args.fill c.args.worker c.in-Some.filler.now here c.in-Some-filling.number c.in-Some-get_mut.flight.now _ c.law.ensures
    c.in-Some-filling.ensures led (c.is_of.ensures.0 c.if-not-is_of.false) (ap (λ (f : Flight). record f { sets = f.sets + 1 }) (c.flight.view_is ∙ c.spend.ensures))
