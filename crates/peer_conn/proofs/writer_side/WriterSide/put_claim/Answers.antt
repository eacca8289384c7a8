use Rattle.std.proofs.Common.{sym, ◌∙◌}
use Rattle.peer_conn.proofs.ResponseLemmas.{replies_then, replies_flushed, replies_no_more}
use Rattle.peer_conn.proofs.StrangerLemmas.{counts_fill}
use Rattle.peer_conn.proofs.writer_side.WriterSide.put_claim.Goals as goal

pub returns-then-is_active-clause-replies : goal.returns-then-is_active-clause-replies
returns-then-is_active-clause-replies g c = replies_then (replies_flushed c.flush.ensures.flushes) c.put_filled-then-is_active.ensures.replies

pub returns-else-is_active-clause-replies : goal.returns-else-is_active-clause-replies
returns-else-is_active-clause-replies g c = replies_then (replies_flushed c.flush.ensures.flushes) (replies_no_more _ (sym c.is_active-2.ensures ∙ c.if-is_active.false))

pub returns-in-Some-clause-others : goal.returns-in-Some-clause-others
returns-in-Some-clause-others g c = (c.put_filled.ensures.lane, counts_fill c.args.claim.now _ _ c.args.self.now.strangers_fit c.in-Some.ensures c.put_filled.ensures.counts)

pub returns-then-is_active-clause-others : goal.returns-then-is_active-clause-others
returns-then-is_active-clause-others g c =
    (c.put_filled-then-is_active.ensures.lane, counts_fill c.args.claim.now _ _ c.args.self.now.strangers_fit c.wait_for-fill.ensures c.put_filled-then-is_active.ensures.counts)
