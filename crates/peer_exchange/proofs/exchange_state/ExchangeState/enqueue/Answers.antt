use Rattle.std.proofs.Common.{sym, ◌∙◌, refl, subst}
use Rattle.peer_wish.specs.Tickets.{wish_by}
use Rattle.peer_exchange.specs.Intakes.{JudgesOn}
use Rattle.peer_exchange.proofs.ExchangeLemmas.{judge_one, wait_one}
use Rattle.peer_exchange.proofs.IntakeLemmas.{judges_on_giving, next_front}
use Rattle.peer_exchange.proofs.exchange_state.ExchangeState.enqueue.Goals as goal

pub returns-clause-upholds : goal.returns-clause-upholds
returns-clause-upholds g c numbers next =
    let a = c.args.self.now in
    let t = record (c.args.ticket) { closing = c.closes-closing.result } in
    let w = record (wish_by c.args.ticket) { closing = c.closes-closing.result } in
    let judges = c.give.ensures.judges numbers (wish_by c.args.ticket) next c.requires.front c.closes-closing.ensures in
    record {
      keeps = λ came sent h. wait_one {a = record a { intake = c.give.new.self }} t w refl c.push_back_reserved.ensures.items
          c.push_back_reserved.ensures.len c.requires.few refl refl
          (judge_one {a = a} w judges refl refl h);
    }

pub give-requires-clause-within : goal.give-requires-clause-within
give-requires-clause-within g c stays =
    let a = c.args.self.now.intake in
    let next = c.requires.next in
    (next_front next.0 a.held a.count c.args.len (wish_by c.args.ticket) next.1 (sym c.closes-closing.ensures ∙ stays) c.requires.front).0

pub returns-clause-stage : goal.returns-clause-stage
returns-clause-stage g c =
    let st = c.args.self.now.intake.stage in
    subst (JudgesOn st) (sym c.give.ensures.stage) (judges_on_giving c.closes-closing.result st c.requires.judging)
