use Rattle.std.proofs.Common.{sym, subst}
use Rattle.peer_fill.specs.Pools.{source_of}
use Rattle.peer_conn.proofs.EndLemmas.{connects_sides, connects_refused}
use Rattle.peer_conn.proofs.HeadlineLemmas.{written_allowed}
use Rattle.peer_conn.specs.Responses.{AreNewResponses}
use Rattle.peer_conn.proofs.connection.serve_connection.Goals as goal

pub returns-in-Err-clause-connects : goal.returns-in-Err-clause-connects
returns-in-Err-clause-connects g c =
    let err = c.in-Err.ensures.err in connects_refused g.R.PeerRead g.W.PeerWrite err.reader err.writer err.end

pub returns-clause-connects : goal.returns-clause-connects
returns-clause-connects g c =
    let new = c.in-Ok.ensures.halves in
    let fresh = subst (AreNewResponses c.args.writer) (sym c.new-writer.ensures.responses) new.responses in
    connects_sides new.requests fresh c.serve_sides.ensures.serves

-- each group and key has an answer, which is allowed: so what is written is a front of replies to all wishes
pub returns-in-Err-clause-writes_replies : goal.returns-in-Err-clause-writes_replies
returns-in-Err-clause-writes_replies g c =
    let source = g.met.S.Source g.world.𝓛 g.world.𝓜 g.world.𝓡 (λ s h. h, λ h. h, λ h. h, λ h. h) in
    written_allowed (source.answered (source_of c.args.pool.now)) (source.within (source_of c.args.pool.now)) (returns-in-Err-clause-connects g c).serves

pub returns-clause-writes_replies : goal.returns-clause-writes_replies
returns-clause-writes_replies g c =
    let source = g.met.S.Source g.world.𝓛 g.world.𝓜 g.world.𝓡 (λ s h. h, λ h. h, λ h. h, λ h. h) in
    written_allowed (source.answered (source_of c.args.pool.now)) (source.within (source_of c.args.pool.now)) (returns-clause-connects g c).serves
