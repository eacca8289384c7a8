use Rattle.std.proofs.Common.{◌≡◌, arith, subst}
use Rattle.peer_fill.specs.Pools.{IsSeatOf}
use Rattle.peer_fill.proofs.Lasts.{of_front, of_last, sum_last}
use Rattle.peer_fill.proofs.Moving.{all_push, moves}
use Rattle.peer_fill.proofs.keeping.join_seats.Goals as goal

pub loop-handle-preserved : goal.loop-handle-preserved
loop-handle-preserved g c =
    let i = c.loop-handle.invariant in
    let pool = c.args.pool.now in
    let last = c.in-Some.ensures.items in
    let of : c.in-Some.handle.promise.pool.now ≡ pool = of_last (λ h. h.promise.pool.now ≡ pool) _ _ _ last i.threads in
    record {
      threads = of_front (λ h. h.promise.pool.now ≡ pool) _ _ _ last i.threads;
      seats = all_push (IsSeatOf g.T.Seat.pass_of pool) _ _ _ c.in-Ok.ensures.items i.seats
          (subst (λ p. IsSeatOf g.T.Seat.pass_of p c.join.result) of c.join.ensures.0);
      room = omega (arith, c.in-Some.ensures.cases, c.in-Ok.ensures.len, c.in-Ok.ensures.capacity, i.room);
      parts = moves (λ h. g.T.Seat.parts_of h.promise.seat.value) g.T.Seat.parts_of c.loop-handle.threads.items c.pop.new.self.items
          c.loop-handle.seats.items c.push.new.self.items c.join.result (g.T.Seat.parts_of c.in-Some.handle.promise.seat.value) _
          (sum_last (λ h. g.T.Seat.parts_of h.promise.seat.value) _ _ _ last) c.in-Ok.ensures.items c.join.ensures.1 i.parts;
    }
