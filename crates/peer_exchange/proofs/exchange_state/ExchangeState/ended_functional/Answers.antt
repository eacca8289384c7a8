use Rattle.std.proofs.Common.{refl}
use Rattle.peer_wish.specs.Allowed.{only, allows}
use Rattle.peer_wish.proofs.ReplyLemmas.{merely_its_reply}
use Rattle.peer_exchange.proofs.ExchangeEndLemmas.{end_under}
use Rattle.peer_exchange.proofs.exchange_state.ExchangeState.ended_functional.Goals as goal

-- an allowed answer is the one answer
pub returns-clause-ends : goal.returns-clause-ends
returns-clause-ends g c came sent h =
    let functional = g.met.S.FunctionalSource in
    let the_answer = g.S.FunctionalSource.the_answer in
    end_under g.S.FunctionalSource.the_number came sent (allows g.S.Source.allowed) (only the_answer) (λ closing bare group k r h. (the_answer group k, refl, merely_its_reply closing bare _ h.0 (the_answer group k) r h.1 (functional.single group k h.0) h.2)) c.args.self.now _ (c.ended.ensures.ends g.S.FunctionalSource.the_number came sent h)
