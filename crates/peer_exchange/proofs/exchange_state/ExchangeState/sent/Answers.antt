use Rattle.std.proofs.Common.{◌∙◌, ◌++◌, ap, take, length, append_assoc, take-append-drop, length-drop, arith}
use Rattle.peer_exchange.specs.ExchangeStates.{unsent}
use Rattle.peer_exchange.proofs.ExchangeLemmas.{still_few}
use Rattle.peer_exchange.proofs.exchange_state.ExchangeState.sent.Goals as goal

pub returns-clause-upholds : goal.returns-clause-upholds
returns-clause-upholds g c numbers came sent h =
    let out = unsent c.args.self.now in
    let n = c.args.n in
    record {
      answered = h.answered;
      judged = h.judged;
      replies = h.replies;
      each = h.each;
      put = ap (λ v. (sent ++ take n out) ++ v) c.drop_front.ensures ∙ append_assoc sent (take n out) _ ∙ ap (λ v. sent ++ v) (take-append-drop n out) ∙ h.put;
      waiting = h.waiting;
      unsent = still_few h.replies out _ (omega (arith, ap length c.drop_front.ensures, length-drop n out)) h.unsent;
    }
