use Rattle.std.proofs.Common.{◌≡◌, [], ◌∷◌, ◌++◌, Option, Some, None, get_or, ap, sym, subst, ◌∙◌, refl}
use Rattle.std.proofs.lemmas.Bool.{ltb-true}
use Rattle.peer_source.specs.Answers.{Answer, Filled}
use Rattle.peer_source.specs.Outcomes.{answer_of}
use Rattle.peer_flight.specs.World.{Connection}
use Rattle.peer_flight.specs.Events.{SeesOutcome}
use Rattle.flight_world.specs.Views.{hand_of, Brings}
use Rattle.flight_world.proofs.Seeing.{answer_there, end_seen_as, answer_seen, first_of}
use Rattle.flight_world.proofs.connection.Connection.see_outcome.Goals as goal

pub returns-in-NoMemory-clause-seen : goal.returns-in-NoMemory-clause-seen
returns-in-NoMemory-clause-seen g c =
    let t = c.in-Some.ticket.now in
    let fill = c.in-Some-brought.fill.now in
    let first = first_of c.self.inside.waiting.items t (ltb-true _ _ (sym c.in-Some.ensures.item.0)) c.in-Some.ensures.lookup in
    let none : fill.answer ≡ None = sym c.outcome.ensures.answer ∙ ap answer_of c.in-NoMemory.is in
    end_seen_as c.args.flights.now _ _ c.self.view_is t first.0 fill c.if-self.false first.1 c.in-Some-brought.ensures none

pub returns-clause-seen : goal.returns-clause-seen
returns-clause-seen g c =
    let was : Connection = record {
      arrived = c.self.inside.arrived.items;
      hand = hand_of c.self.inside.hand;
      lane = c.self.inside.lane.items;
      waiting = c.self.inside.waiting.items;
      written = c.self.inside.written.items;
      ended = c.self.inside.ended;
    } in
    let t = c.in-Some-pop_front.ticket in
    let fill = c.in-Some-brought.fill.now in
    let first : was.waiting ≡ t ∷ c.pop_front.new.self.items = c.in-Some-pop_front.ensures.items in
    let same : c.in-Some.ticket.now ≡ t = c.in-Some.ensures.lookup ∙ ap (λ ts. get_or ts 0 c.in-Some.ticket.now) first in
    let brings : Brings c.args.flights.now t fill = subst (λ x. Brings c.args.flights.now x fill) same c.in-Some-brought.ensures in
    let there = answer_there c.outcome.result.now c.in_default-outcome.not-NoMemory in
    let some : fill.answer ≡ Some there.0 = sym c.outcome.ensures.answer ∙ there.1 in
    let kept : c.in_ok-share.field-0.answer ≡ Some there.0 = ap (λ (x : Filled). x.answer) c.in_ok-share.ensures ∙ some in
    let more : c.push_reserved.new.self.items ≡ was.written ++ record { ticket = t; answer = Some there.0 } ∷ [] =
    c.push_reserved.ensures.items ∙ ap (λ ws. ws ++ record { ticket = t; answer = c.in_ok-share.field-0.answer } ∷ []) c.in_ok-reserve.ensures.items ∙ ap (λ (a : Option Answer). was.written ++ record { ticket = t; answer = a } ∷ []) kept in
    subst (λ x. SeesOutcome c.args.flights.now x (record was { waiting = c.pop_front.new.self.items; written = c.push_reserved.new.self.items })) c.self.view_is
    (answer_seen c.args.flights.now was t c.pop_front.new.self.items fill c.if-self.false first brings there.0 some c.pop_front.new.self.items c.push_reserved.new.self.items refl more)
