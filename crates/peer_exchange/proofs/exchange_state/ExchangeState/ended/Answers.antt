use Rattle.std.proofs.Common.{◌∙◌, rules, sym}
use Rattle.peer_exchange.proofs.ExchangeEndLemmas.{end_cut, not_so}
use Rattle.peer_exchange.proofs.exchange_state.ExchangeState.ended.Goals as goal

pub returns-in-Ended-2-clause-ends : goal.returns-in-Ended-2-clause-ends
returns-in-Ended-2-clause-ends g c numbers came sent h =
    let over = sym c.is_over.ensures ∙ c.if-not-is_over.false in
    (over, end_cut c.args.self.now over h c.in-Ended-2.is (not_so _ _ c.holds_only_pairs.ensures c.if-holds_only_pairs.false))

pub returns-in-Closed-clause-stage : goal.returns-in-Closed-clause-stage
returns-in-Closed-clause-stage g c = search rules
