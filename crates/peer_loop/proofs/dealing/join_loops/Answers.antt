use Rattle.std.proofs.Common.{◌≡◌, arith}
use Rattle.peer_fill.specs.Seats.{conn_parts}
use Rattle.peer_fill.proofs.Lasts.{of_front}
use Rattle.peer_clients.specs.Parts.{filling_parts}
use Rattle.peer_loop.proofs.StartLemmas.{comes_back}
use Rattle.peer_loop.proofs.dealing.join_loops.Goals as goal

pub loop-handle-preserved : goal.loop-handle-preserved
loop-handle-preserved g c =
    let i = c.loop-handle.invariant in
    let pool = c.args.pool.now in
    let last = c.in-Some.ensures.items in
    let conn = c.put_conn.ensures in
    let fill = c.put_fill.ensures in
    record {
      serving = of_front (λ h. h.promise.pool.now ≡ pool) _ _ _ last i.serving;
      of = record { conns = conn.conns; fills = fill.fills };
      conn_room = omega (arith, c.in-Some.ensures.cases, conn.len, conn.room, i.conn_room);
      fill_room = omega (arith, c.in-Some.ensures.cases, fill.len, fill.room, i.fill_room);
      conn = comes_back (λ h. conn_parts h.promise.seats.value.conn) _ _ _ _ _ _ _ last conn.parts c.join-conn.ensures.1.0 i.conn;
      fill = comes_back (λ h. filling_parts h.promise.seats.value.fill) _ _ _ _ _ _ _ last fill.parts c.join-conn.ensures.1.1 i.fill;
      len = omega (arith, c.in-Some.ensures.cases, fill.len, i.len);
      room = omega (arith, fill.room, i.room);
    }
