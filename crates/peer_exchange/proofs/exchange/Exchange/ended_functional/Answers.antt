use Rattle.peer_exchange.proofs.FunctionalLemmas.{by_fixed_names}
use Rattle.peer_exchange.proofs.exchange.Exchange.ended_functional.Goals as goal

pub returns-clause-ends : goal.returns-clause-ends
returns-clause-ends g c =
    let functional = g.met.S.FunctionalSource in
    by_fixed_names _ _ _ _ _ _ (functional.fixed_names c.args.self.now.names) (c.ended_functional.ensures.ends _ _) c.args.self.now.upholds
