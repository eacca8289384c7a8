use Rattle.peer_exchange.proofs.KnownLemmas.{end_known}
use Rattle.peer_exchange.proofs.known.Exchange+Known+S+W.ended_known.Goals as goal

pub returns-clause-ends : goal.returns-clause-ends
returns-clause-ends g c =
    let e = c.args.self.now in
    let source = e.names.source in
    end_known (g.S.Source.answers source) g.W.Relation.may e.names.same (g.S.Source.number_of source) e.came.bytes e.sent.bytes e.state _ c.ended.ensures.ends
