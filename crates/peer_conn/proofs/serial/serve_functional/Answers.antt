use Rattle.std.proofs.Common.{refl}
use mathlib.Core.Path.{fun_ext}
use Rattle.peer_wish.specs.Allowed.{only}
use Rattle.peer_conn.proofs.AnswerLemmas.{serves}
use Rattle.peer_conn.proofs.HeadlineLemmas.{written}
use Rattle.peer_conn.proofs.serial.serve_functional.Goals as goal

-- the source's answers are allowed, and so the one answer; its names are those of its type
pub returns-clause-serves : goal.returns-clause-serves
returns-clause-serves g c =
    let functional = g.met.S.FunctionalSource in
    let source = g.met.S.Source in
    serves (g.S.Source.answers c.args.source.now) (only g.S.FunctionalSource.the_answer)
    (λ closing bare group k r h. (h.0, functional.single group k h.0 (source.within c.args.source.now group k h.0 h.1), h.2))
    (g.S.Source.number_of c.args.source.now) c.args.reads _ _ c.serve_serial.result.end (fun_ext (functional.fixed_names c.args.source.now)) c.serve_serial.ensures.serves

-- and so what is written is a front of the replies of that one answer
pub returns-clause-writes_replies : goal.returns-clause-writes_replies
returns-clause-writes_replies g c = written _ _ (λ group k. (g.S.FunctionalSource.the_answer group k, refl)) (returns-clause-serves g c)
