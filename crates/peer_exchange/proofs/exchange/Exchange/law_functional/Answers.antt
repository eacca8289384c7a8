use Rattle.peer_exchange.proofs.FunctionalLemmas.{by_fixed_names}
use Rattle.peer_exchange.proofs.exchange.Exchange.law_functional.Goals as goal

pub returns : goal.returns
returns g c =
    let functional = g.met.S.FunctionalSource in
    by_fixed_names _ _ _ _ _ _ (functional.fixed_names c.args.self.now.names) (c.law_functional.ensures _ _) c.args.self.now.upholds
