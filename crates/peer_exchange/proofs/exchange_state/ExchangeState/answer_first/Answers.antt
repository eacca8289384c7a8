use Rattle.std.proofs.lemmas.Grind.{common_steps}
use Rattle.std.proofs.Common.{◌∙◌, ◌<◌, ◌∷◌, ap, arith, length, refl, rules, subst, sym}
use Rattle.std.proofs.lemmas.Bool.{leb-false}
use Rattle.std.specs.VecDeque.{deque_len}
use Rattle.peer_exchange.proofs.ExchangeLemmas.{first_item, upholds_like, answer_one}
use Rattle.peer_exchange.proofs.exchange_state.ExchangeState.answer_first.Goals as goal

pub returns-in-Ok-Put-clause-keeps : goal.returns-in-Ok-Put-clause-keeps
returns-in-Ok-Put-clause-keeps g c numbers =
    let waiting = c.args.self.now.waiting in
    let t = c.in-Some.ticket.now in
    let has : 0 < deque_len waiting = c.in-Some.ensures.variant.0 refl in
    let some : 0 < length waiting.items = subst (λ n. 0 < n) waiting.ok.0 has in
    let first = first_item waiting.items t some c.in-Some.ensures.lookup ∙ ap (λ ts. t ∷ ts) (sym c.drop_first.ensures.items) in
    let small = leb-false _ _ (sym c.has_much_output.ensures ∙ c.if-has_much_output.false) in
    let put = rw c.in-Ok-Put.field-0-is at c.in-Ok-Put.ensures in
    record { keeps = λ came sent h. answer_one {a = c.args.self.now} t refl first (omega (arith, c.drop_first.ensures.len, has)) small put.0 h }

pub returns-in-Err-clause-keeps : goal.returns-in-Err-clause-keeps
returns-in-Err-clause-keeps g c numbers = record { keeps = λ came sent h. c.give_up.ensures.upholds numbers came sent _ (upholds_like refl refl c.in-Err.ensures h) }

pub returns-in-Ok-Waits-clause-answers : goal.returns-in-Ok-Waits-clause-answers
returns-in-Ok-Waits-clause-answers g c = grind (arith, common_steps)

pub returns-in-Err-clause-answers : goal.returns-in-Err-clause-answers
returns-in-Err-clause-answers g c = search rules
