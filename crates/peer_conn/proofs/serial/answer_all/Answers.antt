use Rattle.std.proofs.Common.{arith, ◌++◌, [], ◌∷◌}
use Rattle.peer_conn.proofs.RequestLemmas.{receives_none, receives_then, receives_on, stops_then, stops_on, halts}
use Rattle.peer_conn.proofs.ResponseLemmas.{replies_none, replies_then, replies_on, replies_flushed}
use Rattle.peer_conn.proofs.serial.answer_all.Goals as goal

pub loop-wish-init : goal.loop-wish-init
loop-wish-init g c = ([], receives_none _, replies_none _)

pub loop-wish-preserved : goal.loop-wish-preserved
loop-wish-preserved g c =
    let i = c.loop-wish.invariant in
    (i.0 ++ c.in-Request.wish ∷ [], receives_then i.1 c.in-Request.ensures.gives, replies_then i.2 c.answer.ensures)

pub returns-then-not-is_active-clause-serves : goal.returns-then-not-is_active-clause-serves
returns-then-not-is_active-clause-serves g c =
    let i = c.loop-wish.invariant in
    record { wishes = i.0 ++ c.in-Request.wish ∷ []; stops = halts (receives_then i.1 c.in-Request.ensures.gives); replies = replies_then i.2 c.answer.ensures }

pub returns-in-Last-clause-serves : goal.returns-in-Last-clause-serves
returns-in-Last-clause-serves g c =
    let i = c.loop-wish.invariant in
    record { wishes = i.0 ++ c.in-Last.wish ∷ []; stops = stops_then i.1 c.in-Last.ensures.gives; replies = replies_then i.2 c.answer-in-Last.ensures }

pub returns-in-Err-clause-serves : goal.returns-in-Err-clause-serves
returns-in-Err-clause-serves g c =
    let i = c.loop-wish.invariant in
    record { wishes = i.0; stops = stops_on i.1 (stops_then c.in-Need.ensures.gives.1 (c.in-Err.ensures.reads _)); replies = replies_on i.2 (replies_flushed c.in-Err.ensures.flushes) }

pub loop-wish-smaller-in-Ok : goal.loop-wish-smaller-in-Ok
loop-wish-smaller-in-Ok g c =
    let given = c.in-Need.ensures.gives.1 in
    let fed = c.in-Ok.ensures.reads (g.S.Source.number_of c.args.names.now) in
    omega (arith, given.counted, fed.counted, c.in-Need.ensures.left, c.in-Ok.ensures.left)

pub loop-wish-preserved-in-Ok : goal.loop-wish-preserved-in-Ok
loop-wish-preserved-in-Ok g c =
    let i = c.loop-wish.invariant in
    let read = c.in-Ok.ensures in
    (i.0, receives_on i.1 (receives_then c.in-Need.ensures.gives.1 (read.reads _)), replies_on i.2 (replies_flushed read.flushes))

pub returns-in-NoMemory-clause-serves : goal.returns-in-NoMemory-clause-serves
returns-in-NoMemory-clause-serves g c =
    let i = c.loop-wish.invariant in
    record { wishes = i.0; stops = stops_on i.1 c.in-NoMemory.ensures.gives; replies = i.2 }
