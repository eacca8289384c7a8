use Rattle.std.proofs.Common.{◌∙◌, append-nil}
use Rattle.peer_conn.proofs.WriterSideLemmas.{tickets_none, tickets_still, tickets_more}
use Rattle.peer_conn.proofs.writer_side.WriterSide.run.Goals as goal

pub loop-init : goal.loop-init
loop-init g c = tickets_none

pub returns-in_default : goal.returns-in_default
returns-in_default g c =
    let n = c.in_default.ensures in
    tickets_still c.loop.invariant n.lane (n.taken ∙ append-nil _) n.replies n.strangers

pub loop-preserved : goal.loop-preserved
loop-preserved g c =
    let n = c.in-Some-next_ticket.ensures in
    let p = c.put.ensures in
    tickets_more c.next_ticket.new.self c.in-Some-next_ticket.ticket c.loop.invariant n.lane n.taken n.replies n.strangers p.others.0 p.replies p.others.1
