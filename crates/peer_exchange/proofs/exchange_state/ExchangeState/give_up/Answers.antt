use Rattle.std.proofs.Common.{subst, ap, length, arith}
use Rattle.peer_exchange.specs.Intakes.{Judged}
use Rattle.peer_exchange.proofs.ExchangeLemmas.{none_waits}
use Rattle.peer_exchange.proofs.exchange_state.ExchangeState.give_up.Goals as goal

pub returns-clause-upholds : goal.returns-clause-upholds
returns-clause-upholds g c numbers came sent more h = record {
  answered = h.answered;
  judged = subst (λ ws. Judged numbers came ws c.give_up.new.self) (none_waits h.answered _ c.clear.ensures.items) (c.give_up.ensures.first numbers came h.answered _ h.judged);
  replies = h.replies;
  each = h.each;
  put = h.put;
  waiting = omega (arith, c.clear.new.self.ok.0, ap length c.clear.ensures.items);
  unsent = h.unsent;
}
