use Rattle.peer_wish.specs.Allowed.{allows}
use Rattle.peer_exchange.proofs.ExchangeLemmas.{are_sent, holds_little}
use Rattle.peer_exchange.proofs.exchange_state.ExchangeState.law.Goals as goal

-- each group and key has an answer, which is allowed
pub returns-clause-sent : goal.returns-clause-sent
returns-clause-sent g c came sent h =
    let source = g.met.S.Source in
    let names = c.args.names.now in
    are_sent (g.S.Source.number_of names) (allows g.S.Source.allowed)
    (λ group k. ((source.answered names group k).0, ∣ source.within names group k (source.answered names group k).0 (source.answered names group k).1 ∣₁))
    c.args.self.now came sent h

pub returns-clause-little : goal.returns-clause-little
returns-clause-little g c came sent h =
    let e = c.args.self.now in
    holds_little (g.S.Source.number_of c.args.names.now) (allows g.S.Source.allowed) e came sent e.intake.within h
