use Rattle.std.proofs.Common.{◌≡◌, refl, ap, arith}
use Rattle.peer_fill.specs.Seats.{conn_parts}
use Rattle.peer_fill.proofs.Moving.{all_push}
use Rattle.peer_fill.proofs.Lasts.{sum_last}
use Rattle.peer_clients.specs.Parts.{filling_parts}
use Rattle.peer_loop.proofs.StartLemmas.{hands_out}
use Rattle.peer_loop.proofs.server_threads.ServerThreads.start_loop.Goals as goal

pub returns : goal.returns
returns g c =
    let i = c.requires in
    let pool = c.args.self.now.pool.now in
    let taken = c.in_ok-seats.ensures in
    let started = c.in_ok-handle.ensures in
    let pushed = c.push_reserved.ensures in
    record {
      is = record {
        seats = taken.left;
        allows = i.allows;
        serving = all_push (λ h. h.promise.pool.now ≡ pool) _ _ _ pushed.items i.serving started.pool;
        working = i.working;
        serve_room = omega (arith, i.serve_room, taken.takes.fewer, pushed.len, pushed.capacity);
        work_room = omega (arith, i.work_room, taken.takes.no_more);
        conn_room = omega (arith, i.conn_room, taken.takes.fewer, taken.takes.room.0, pushed.len);
        fill_room = omega (arith, i.fill_room, taken.takes.fewer, taken.takes.no_more, taken.takes.room.1, pushed.len);
      };
      pool = refl;
      conns = hands_out (λ h. conn_parts h.promise.seats.value.conn) _ _ _ _ _ _ _ pushed.items taken.takes.conn
          (ap (λ s. conn_parts s.conn) started.seats) refl;
      fills = omega (
        arith,
        taken.takes.fill,
        sum_last (λ h. filling_parts h.promise.seats.value.fill) _ _ _ pushed.items,
        ap (λ s. filling_parts s.fill) started.seats,
      );
    }
