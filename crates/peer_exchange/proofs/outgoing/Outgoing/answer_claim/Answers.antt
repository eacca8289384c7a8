use Rattle.std.proofs.Common.{rules}
use Rattle.peer_wish.specs.Allowed.{allows}
use Rattle.peer_exchange.proofs.AnsweringLemmas.{answers_filled}
use Rattle.peer_exchange.proofs.outgoing.Outgoing.answer_claim.Goals as goal

pub returns : goal.returns
returns g c =
    answers_filled (allows g.S.Source.allowed) c.args.claim.now c.in-Some.fill.now c.args.form c.args.self.now.out.bytes c.put_filled.new.self.out.bytes c.put_filled.result
    c.in-Some.ensures.there c.put_filled.ensures

pub returns-in-Ok : goal.returns-in-Ok
returns-in-Ok g c = search rules
