use Rattle.std.proofs.Common.{◌≡◌, ap, arith}
use Rattle.peer_fill.proofs.Moving.{all_push}
use Rattle.peer_fill.proofs.Lasts.{sum_last}
use Rattle.peer_socket.proofs.seat_threads.start_seats.Goals as goal

pub loop-seat-preserved : goal.loop-seat-preserved
loop-seat-preserved g c =
    let i = c.loop-seat.invariant in
    let taken = c.in-Some.ensures in
    let started = c.in_ok-handle.ensures in
    let pushed = c.push_reserved.ensures in
    record {
      dealt = record {
        seats = taken.rest;
        threads = all_push (λ h. h.promise.pool.now ≡ c.args.pool.now) c.loop-seat.threads.items c.push_reserved.new.self.items _
            pushed.items i.dealt.threads started.pool;
        room = omega (arith, i.dealt.room, taken.fewer, taken.capacity, pushed.len);
      };
      parts = omega (
        arith,
        i.parts,
        taken.parts,
        sum_last (λ h. g.T.Seat.parts_of h.promise.seat.value) _ _ _ pushed.items,
        ap g.T.Seat.parts_of started.seat,
      );
      room = omega (arith, i.room, taken.fewer, pushed.len, pushed.capacity);
    }
