use Rattle.std.proofs.Common.{◌∙◌, refl, sym, ap, arith, [], ◌∷◌, ◌++◌, append-nil}
use Rattle.peer_wish.specs.Tickets.{wish_by, wishes_by}
use Rattle.peer_conn.proofs.ResponseLemmas.{replies_none, replies_on, replies_then, replies_flushed}
use Rattle.peer_conn.proofs.StrangerLemmas.{counts_same, counts_then, counts_one}
use Rattle.peer_conn.proofs.WriterSideLemmas.{drains_more, none_left}
use Rattle.peer_lane.specs.Lanes.{tickets_taken}
use Rattle.peer_conn.proofs.writer_side.WriterSide.write_left.Goals as goal

pub loop-init : goal.loop-init
loop-init g c =
    let b = c.beside-left.ensures in
    ([], record { taken = ap wishes_by b.taken.1 ∙ sym (append-nil _); left = b.left ∙ b.put.1; count = omega (arith, b.count) }, replies_none _, counts_same b.taken.1 refl)

pub loop-preserved : goal.loop-preserved
loop-preserved g c =
    let i = c.loop.invariant in
    let t = c.take_known-ticket.ensures in
    (i.0 ++ wish_by c.take_known-ticket.result ∷ [], drains_more c.take_known-ticket.new.self c.take_known-ticket.result i.1 t.taken t.known c.put.ensures.others.0, replies_then i.2 c.put.ensures.replies, counts_then i.3 (counts_one c.take_known-ticket.result (ap tickets_taken c.put.ensures.others.0 ∙ t.taken) c.put.ensures.others.1))

pub returns-clause-left : goal.returns-clause-left
returns-clause-left g c =
    let i = c.loop.invariant in
    let none = none_left _ _ _ _ _ i.1.count (omega arith) i.1.left in
    record {
      wishes = i.0;
      all = sym i.1.taken ∙ ap wishes_by none;
      replies = replies_on i.2 (replies_flushed c.flush.ensures.flushes);
      strangers = counts_then i.3 (counts_same (sym none) refl);
    }
