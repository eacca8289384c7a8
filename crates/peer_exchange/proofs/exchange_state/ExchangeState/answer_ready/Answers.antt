use Rattle.std.proofs.Common.{refl, ◌∙◌, arith}
use Rattle.peer_exchange.proofs.ExchangeLemmas.{keeps_none, keeps_then}
use Rattle.peer_exchange.proofs.SeatLemmas.{seat_kept, seat_then}
use Rattle.peer_exchange.proofs.AskingLemmas.{answers_none, answers_one, answers_same, answers_lost}
use Rattle.peer_exchange.proofs.exchange_state.ExchangeState.answer_ready.Goals as goal

pub loop-why-init : goal.loop-why-init
loop-why-init g c = record { seat = seat_kept c.requires; keeps = λ numbers. keeps_none _; answers = answers_none _ _ c.args.seat.now.most_strangers; stage = refl }

pub loop-why-preserved : goal.loop-why-preserved
loop-why-preserved g c =
    let i = c.loop-why.invariant in
    let put = c.answer_first.ensures in
    let one = rw c.in-Ok-Put.field-0-is at c.in-Ok-Put.ensures.answers in
    record {
      seat = seat_then i.seat put.seat;
      keeps = λ numbers. keeps_then (i.keeps numbers) (put.keeps numbers);
      answers = answers_one i.answers one.0;
      stage = one.1 ∙ i.stage;
    }

pub loop-why-smaller : goal.loop-why-smaller
loop-why-smaller g c =
    let one = rw c.in-Ok-Put.field-0-is at c.in-Ok-Put.ensures.answers in
    omega (arith, one.0.len)

pub returns-in-Ok-Waits : goal.returns-in-Ok-Waits
returns-in-Ok-Waits g c =
    let i = c.loop-why.invariant in
    let put = c.answer_first.ensures in
    let none = rw c.in-Ok-Waits.field-0-is at c.in-Ok-Waits.ensures.answers in
    record {
      seat = seat_then i.seat put.seat;
      keeps = λ numbers. keeps_then (i.keeps numbers) (put.keeps numbers);
      answers = answers_same i.answers none.0 none.1 none.4 none.5;
      through = none.3;
      stage = none.2 ∙ i.stage;
      given_up = tt;
    }

pub returns-in-Err-clause-keeps : goal.returns-in-Err-clause-keeps
returns-in-Err-clause-keeps g c numbers = keeps_then (c.loop-why.invariant.keeps numbers) (c.answer_first.ensures.keeps numbers)

pub returns-in-Err-clause-answers : goal.returns-in-Err-clause-answers
returns-in-Err-clause-answers g c = answers_lost c.loop-why.invariant.answers c.in-Err.ensures.answers.0
