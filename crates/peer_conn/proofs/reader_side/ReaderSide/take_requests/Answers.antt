use Rattle.std.proofs.Common.{arith, ◌++◌, [], ◌∷◌}
use Rattle.peer_conn.proofs.RequestLemmas.{receives_none, receives_then, receives_on, receives_same, stops_then, stops_on, stops_same, halts}
use Rattle.peer_conn.proofs.ReaderSideLemmas.{puts_none, puts_then, puts_on, puts_same, unput}
use Rattle.peer_conn.proofs.reader_side.ReaderSide.take_requests.Goals as goal

pub loop-wish-init : goal.loop-wish-init
loop-wish-init g c = ([], receives_none _, puts_none c.requires.seat)

pub loop-wish-preserved-in-Ok : goal.loop-wish-preserved-in-Ok
loop-wish-preserved-in-Ok g c =
    let i = c.loop-wish.invariant in
    let put = c.in-Ok.ensures in
    (i.0 ++ c.in-Request.wish ∷ [], receives_same put.requests (receives_then i.1 c.in-Request.ensures.gives), puts_then i.2 put.put)

pub returns-in-Err : goal.returns-in-Err
returns-in-Err g c =
    let i = c.loop-wish.invariant in
    let put = c.in-Err.ensures in
    let stops = stops_same put.requests (stops_then i.1 (halts c.in-Request.ensures.gives)) in
    record { wishes = i.0; stops = unput i.0 (c.in-Request.wish ∷ []) c.in-Err.fault stops; puts = puts_on i.2 put.refused }

pub returns-in-Ok-put : goal.returns-in-Ok-put
returns-in-Ok-put g c =
    let i = c.loop-wish.invariant in
    let put = c.in-Ok-put.ensures in
    record { wishes = i.0 ++ c.in-Last.wish ∷ []; stops = stops_same put.requests (stops_then i.1 c.in-Last.ensures.gives); puts = puts_then i.2 put.put }

pub returns-in-Err-put : goal.returns-in-Err-put
returns-in-Err-put g c =
    let i = c.loop-wish.invariant in
    let put = c.in-Err-put.ensures in
    let stops = stops_same put.requests (stops_then i.1 c.in-Last.ensures.gives) in
    record { wishes = i.0; stops = unput i.0 (c.in-Last.wish ∷ []) c.in-Err-put.fault stops; puts = puts_on i.2 put.refused }

pub returns-in-Err-read : goal.returns-in-Err-read
returns-in-Err-read g c =
    let i = c.loop-wish.invariant in
    let read = c.in-Err-read.ensures in
    record { wishes = i.0; stops = stops_on i.1 (stops_then c.in-Need.ensures.gives.1 (read.reads _)); puts = puts_same read.seat read.lane i.2 }

pub loop-wish-smaller : goal.loop-wish-smaller
loop-wish-smaller g c =
    let given = c.in-Need.ensures.gives.1 in
    let fed = c.in-Ok-read.ensures.reads (g.S.Source.number_of c.args.names.now) in
    omega (arith, given.counted, fed.counted, c.in-Need.ensures.left, c.in-Ok-read.ensures.left)

pub loop-wish-preserved : goal.loop-wish-preserved
loop-wish-preserved g c =
    let i = c.loop-wish.invariant in
    let read = c.in-Ok-read.ensures in
    (i.0, receives_on i.1 (receives_then c.in-Need.ensures.gives.1 (read.reads _)), puts_same read.seat read.lane i.2)

pub returns-in-NoMemory : goal.returns-in-NoMemory
returns-in-NoMemory g c =
    let i = c.loop-wish.invariant in
    record { wishes = i.0; stops = stops_on i.1 c.in-NoMemory.ensures.gives; puts = i.2 }
