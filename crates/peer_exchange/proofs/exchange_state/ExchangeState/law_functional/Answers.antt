use Rattle.std.proofs.Common.{refl}
use Rattle.peer_wish.specs.Allowed.{only, allows}
use Rattle.peer_wish.proofs.ReplyLemmas.{merely_its_reply}
use Rattle.peer_exchange.proofs.ExchangeLemmas.{are_sent, upholds_under}
use Rattle.peer_exchange.proofs.exchange_state.ExchangeState.law_functional.Goals as goal

-- an allowed answer is the one answer
pub returns : goal.returns
returns g c came sent h =
    let functional = g.met.S.FunctionalSource in
    let the_answer = g.S.FunctionalSource.the_answer in
    let under = upholds_under (allows g.S.Source.allowed) (only the_answer) (λ closing bare group k r h. (the_answer group k, refl, merely_its_reply closing bare _ h.0 (the_answer group k) r h.1 (functional.single group k h.0) h.2)) h in
    are_sent g.S.FunctionalSource.the_number (only the_answer) (λ group k. (the_answer group k, refl)) c.args.self.now came sent under
