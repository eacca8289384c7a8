use Rattle.std.proofs.Common.{refl}
use mathlib.Core.Path.{fun_ext}
use Rattle.peer_fill.specs.Pools.{source_of}
use Rattle.peer_wish.specs.Allowed.{only, allows}
use Rattle.peer_wish.proofs.ReplyLemmas.{merely_its_reply}
use Rattle.peer_conn.proofs.AnswerLemmas.{connects_too}
use Rattle.peer_conn.proofs.HeadlineLemmas.{written}
use Rattle.peer_conn.proofs.connection.serve_connection_functional.Goals as goal

-- an allowed answer is the one answer; the source's names are those of its type
pub returns-clause-connects : goal.returns-clause-connects
returns-clause-connects g c =
    let functional = g.met.S.FunctionalSource g.world.𝓛 g.world.𝓜 g.world.𝓡 (λ s h. h, λ h. h, λ h. h, λ h. h) in
    let the_answer = g.S.FunctionalSource.the_answer in
    connects_too (allows g.S.Source.allowed) (only the_answer)
    (λ closing bare group k r h. (the_answer group k, refl, merely_its_reply closing bare _ h.0 (the_answer group k) r h.1 (functional.single group k h.0) h.2))
    (g.S.Source.number_of (source_of c.args.pool.now)) c.args.reads _ _ _ _ c.serve_connection.result.0.end (fun_ext (functional.fixed_names (source_of c.args.pool.now))) c.serve_connection.ensures.connects

-- and so what is written is a front of the replies of that one answer
pub returns-clause-writes_replies : goal.returns-clause-writes_replies
returns-clause-writes_replies g c = written _ _ (λ group k. (g.S.FunctionalSource.the_answer group k, refl)) (returns-clause-connects g c).serves
