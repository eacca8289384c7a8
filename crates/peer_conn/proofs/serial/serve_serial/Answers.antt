use Rattle.std.proofs.Common.{subst}
use Rattle.peer_conn.specs.Exchanges.{Exchanges}
use Rattle.peer_conn.proofs.EndLemmas.{serves_exchanges}
use Rattle.peer_conn.proofs.serial.serve_serial.Goals as goal

pub returns-clause-serves : goal.returns-clause-serves
returns-clause-serves g c =
    let all = subst (λ s. Exchanges (g.S.Source.number_of s) (g.S.Source.answers c.args.source.now) c.in-Ok.halves.requests c.answer_all-stop.new.requests c.in-Ok.halves.responses c.answer_all-stop.new.responses c.answer_all-stop.result) c.of-names.ensures c.answer_all-stop.ensures.serves in
    serves_exchanges c.in-Ok.ensures.ok.requests c.in-Ok.ensures.ok.responses all c.flush.ensures.flushes c.flush.ensures.empty c.end_of.ensures
