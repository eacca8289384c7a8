use Rattle.std.proofs.Common.{◌≡◌, refl, ap, arith}
use Rattle.peer_fill.specs.Seats.{fill_parts}
use Rattle.peer_fill.proofs.Moving.{all_push}
use Rattle.peer_fill.proofs.Lasts.{sum_last}
use Rattle.peer_loop.proofs.server_threads.ServerThreads.start_filler.Goals as goal

pub returns : goal.returns
returns g c =
    let i = c.requires in
    let pool = c.args.self.now.pool.now in
    let taken = c.in_ok-seat.ensures in
    let started = c.in_ok-handle.ensures in
    let pushed = c.push_reserved.ensures in
    record {
      is = record {
        seats = record { conns = i.seats.conns; fills = taken.rest };
        allows = i.allows;
        serving = i.serving;
        working = all_push (λ h. h.promise.pool.now ≡ pool) _ _ _ pushed.items i.working started.pool;
        serve_room = i.serve_room;
        work_room = omega (arith, i.work_room, taken.fewer, pushed.len, pushed.capacity);
        conn_room = i.conn_room;
        fill_room = omega (arith, i.fill_room, taken.fewer, taken.capacity, pushed.len);
      };
      pool = refl;
      conns = refl;
      fills = omega (
        arith,
        taken.parts,
        sum_last (λ h. fill_parts h.promise.seat.value) _ _ _ pushed.items,
        ap fill_parts started.seat,
      );
    }
