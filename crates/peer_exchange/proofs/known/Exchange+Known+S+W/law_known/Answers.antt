use Rattle.peer_exchange.proofs.KnownLemmas.{sent_known}
use Rattle.peer_exchange.proofs.known.Exchange+Known+S+W.law_known.Goals as goal

pub returns : goal.returns
returns g c =
    let e = c.args.self.now in
    let source = e.names.source in
    sent_known (g.S.Source.answers source) g.W.Relation.may e.names.same (g.S.Source.number_of source) e.came.bytes e.sent.bytes c.law.ensures.sent
