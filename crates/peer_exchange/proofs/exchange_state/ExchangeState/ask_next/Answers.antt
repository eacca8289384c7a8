use Rattle.std.proofs.Common.{rules, tests, ◌≡◌, ◌∙◌, ◌+◌, true, [], ◌∷◌, ◌++◌, refl, sym, subst, ap, inl, inr}
use Rattle.peer_head.specs.Blocks.{IsUnfinished}
use Rattle.peer_exchange.specs.Asking.{closed_by}
use Rattle.peer_exchange.specs.Intakes.{JudgesOn, is_given_up, is_judging, is_open}
use Rattle.peer_exchange.proofs.ExchangeLemmas.{judge_none, upholds_like}
use Rattle.peer_exchange.proofs.IntakeLemmas.{judges_on_needing, needing_open, needing_goes_on}
use Rattle.peer_exchange.proofs.exchange_state.ExchangeState.ask_next.Goals as goal

pub returns-then-is_err-clause-keeps : goal.returns-then-is_err-clause-keeps
returns-then-is_err-clause-keeps g c = record { keeps = λ came sent h. c.give_up.ensures.upholds _ came sent _ (upholds_like refl c.reserve.ensures.items refl h) }

pub returns-in-Ticket-clause-keeps : goal.returns-in-Ticket-clause-keeps
returns-in-Ticket-clause-keeps g c = record { keeps = λ came sent h. (c.enqueue.ensures.upholds _ c.in-Ticket.ensures.asks.0).keeps came sent (upholds_like refl c.reserve.ensures.items refl h) }

pub returns-in-Ticket-clause-asks : goal.returns-in-Ticket-clause-asks
returns-in-Ticket-clause-asks g c =
    let t = closed_by c.args.self.now.intake.count c.in-Ticket.ticket in (
      record {
        ticket = t;
        put = c.enqueue.ensures.enqueues.put ∙ ap (λ ts. ts ++ t ∷ []) c.reserve.ensures.items;
        len = c.enqueue.ensures.enqueues.len ∙ ap (λ n. n + 1) c.reserve.ensures.len;
        counted = c.in-Ticket.ensures.asks.2;
      },
      c.enqueue.ensures.enqueues.goes_on,
      c.enqueue.ensures.enqueues.waits_for_job ∙ c.requires.now,
      search (rules, tests),
    )

pub returns-in-Need-clause-keeps : goal.returns-in-Need-clause-keeps
returns-in-Need-clause-keeps g c = record { keeps = λ came sent h. judge_none (c.need.ensures.keeps _) c.reserve.ensures.items refl h }

pub returns-in-Need-clause-asks : goal.returns-in-Need-clause-asks
returns-in-Need-clause-asks g c =
    let a = c.args.self.now in
    let need = c.in-Need.ensures.asks in (
      c.reserve.ensures.items,
      need.1,
      ap is_given_up c.need.ensures.stage ∙ needing_goes_on a.intake.stage,
      λ judging full. inr (
        c.requires.now,
        subst (λ st. is_open st ≡ true) (sym c.need.ensures.stage) (needing_open a.intake.stage (subst (λ st. is_judging st ≡ true) c.need.ensures.stage judging)),
        subst IsUnfinished (sym c.need.ensures.held) need.0,
      ),
    )

pub returns-in-Need-clause-stage : goal.returns-in-Need-clause-stage
returns-in-Need-clause-stage g c =
    let st = c.args.self.now.intake.stage in
    subst (JudgesOn st) (sym c.need.ensures.stage) (judges_on_needing st)

pub returns-in-NotNow-clause-keeps : goal.returns-in-NotNow-clause-keeps
returns-in-NotNow-clause-keeps g c = record { keeps = λ came sent h. upholds_like refl c.reserve.ensures.items refl h }

pub returns-in-NotNow-clause-asks : goal.returns-in-NotNow-clause-asks
returns-in-NotNow-clause-asks g c = (c.reserve.ensures.items, c.in-NotNow.ensures.asks.1, refl, λ judging full. inl (refl, c.in-NotNow.ensures.asks.0))

pub returns-in-Refused-clause-keeps : goal.returns-in-Refused-clause-keeps
returns-in-Refused-clause-keeps g c = record { keeps = λ came sent h. c.give_up-in-Refused.ensures.upholds _ came sent _ (upholds_like refl c.reserve.ensures.items refl h) }
