use Rattle.std.specs.Prelude.{◌≡◌, ◌+◌, ◌≤◌, All, sum_by, vec_len, vec_capacity}
use Rattle.peer_fill.specs.Pools.{IsSeatOf}
use Rattle.peer_fill.proofs.keeping.join_seats.Given as goal

abbrev pub invariant-loop-handle : goal.invariant-loop-handle
invariant-loop-handle g l = record {
  threads : All (λ h. h.promise.pool.now ≡ l.pool) l.threads.items;
  seats : All (IsSeatOf g.T.Seat.pass_of l.pool) l.seats.items;
  room : vec_len l.seats + vec_len l.threads ≤ vec_capacity l.seats;
  parts : sum_by (λ h. g.T.Seat.parts_of h.promise.seat.value) l.threads.items + sum_by g.T.Seat.parts_of l.seats.items
      ≡ sum_by (λ h. g.T.Seat.parts_of h.promise.seat.value) l.initial.threads.items + sum_by g.T.Seat.parts_of l.fn.seats.items;
}

abbrev pub decreases-loop-handle : goal.decreases-loop-handle
decreases-loop-handle g l = vec_len l.threads
