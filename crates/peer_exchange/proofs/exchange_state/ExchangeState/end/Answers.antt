use Rattle.peer_exchange.proofs.IntakeLemmas.{judged_as, judged_told}
use Rattle.peer_exchange.proofs.exchange_state.ExchangeState.end.Goals as goal

pub returns-clause-keeps : goal.returns-clause-keeps
returns-clause-keeps g c numbers =
    let a = c.args.self.now.intake in
    record {
      keeps = λ came sent h. record {
        answered = h.answered;
        judged = judged_as numbers a c.end.new.self _ came _ c.end.ensures.stage c.end.ensures.count c.end.ensures.held (judged_told numbers a.stage came _ a.count a.held h.judged.judged);
        replies = h.replies;
        each = h.each;
        put = h.put;
        waiting = h.waiting;
        unsent = h.unsent;
      };
    }
