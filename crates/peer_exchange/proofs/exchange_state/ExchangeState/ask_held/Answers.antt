use Rattle.std.proofs.Common.{refl, ◌∙◌, arith, inl, subst}
use Rattle.peer_wish.specs.Allowed.{allows}
use Rattle.peer_exchange.specs.ExchangeStates.{Keeps}
use Rattle.peer_exchange.proofs.ExchangeLemmas.{upholds_like, keeps_then}
use Rattle.peer_exchange.proofs.IntakeLemmas.{judges_on_then}
use Rattle.peer_exchange.proofs.SeatLemmas.{seat_kept, seat_then}
use Rattle.peer_exchange.proofs.AskingLemmas.{adds_none, adds_one, adds_same, adds_lost, adds_end, full_through}
use Rattle.peer_exchange.proofs.exchange_state.ExchangeState.ask_held.Goals as goal

pub loop-init : goal.loop-init
loop-init g c = record { seat = seat_kept c.requires.seat; names = refl; keeps = record { keeps = λ came sent h. upholds_like refl refl refl h }; tickets = adds_none _ _ _ refl; stage = inl refl; now = refl; window = refl; many = omega arith }

pub loop-preserved : goal.loop-preserved
loop-preserved g c =
    let i = c.loop.invariant in
    let asked = c.ask_next.ensures in
    let one = rw c.in-Ok-true.field-0-test at c.in-Ok-true.ensures.asks in
    record {
      seat = seat_then i.seat asked.seat;
      names = asked.names ∙ i.names;
      keeps = keeps_then i.keeps (subst (λ s. Keeps (g.S.Source.number_of s) (allows g.S.Source.allowed) c.loop.self c.ask_next.new.self) i.names asked.keeps);
      tickets = adds_one i.tickets one.0;
      stage = judges_on_then i.stage c.in-Ok-true.ensures.stage;
      now = one.2;
      window = asked.window ∙ i.window;
      many = omega (arith, i.many, one.0.len);
    }

pub returns-in-Ok-false : goal.returns-in-Ok-false
returns-in-Ok-false g c =
    let i = c.loop.invariant in
    let asked = c.ask_next.ensures in
    let none = rw c.in-Ok-false.field-0-test at c.in-Ok-false.ensures.asks in
    record {
      seat = seat_then i.seat asked.seat;
      names = asked.names ∙ i.names;
      keeps = keeps_then i.keeps (subst (λ s. Keeps (g.S.Source.number_of s) (allows g.S.Source.allowed) c.loop.self c.ask_next.new.self) i.names asked.keeps);
      tickets = adds_same i.tickets none.0 none.1;
      through = none.3;
      goes_on = judges_on_then i.stage c.in-Ok-false.ensures.stage;
      window = asked.window ∙ i.window;
    }

pub returns-in-Err-clause-keeps : goal.returns-in-Err-clause-keeps
returns-in-Err-clause-keeps g c =
    keeps_then c.loop.invariant.keeps (subst (λ s. Keeps (g.S.Source.number_of s) (allows g.S.Source.allowed) c.loop.self c.ask_next.new.self) c.loop.invariant.names c.ask_next.ensures.keeps)

pub returns-in-Err-clause-tickets : goal.returns-in-Err-clause-tickets
returns-in-Err-clause-tickets g c = adds_lost c.loop.invariant.tickets c.in-Err.ensures.asks.0

pub returns-clause-tickets : goal.returns-clause-tickets
returns-clause-tickets g c = adds_end c.loop.invariant.tickets

pub returns-clause-through : goal.returns-clause-through
returns-clause-through g c = full_through c.loop.self _ (omega (arith, c.loop.invariant.many, c.loop.self.window.few))

pub returns-clause-goes_on : goal.returns-clause-goes_on
returns-clause-goes_on g c = c.loop.invariant.stage
