use Rattle.std.specs.Prelude.{◌≡◌, ◌+◌, ◌≤◌, sum_by, vec_len, vec_capacity}
use Rattle.peer_fill.specs.Pools.{IsSeatOf}
use Rattle.peer_socket.specs.Threads.{all_parts, AreDealt}
use Rattle.peer_socket.proofs.seat_threads.start_seats.Given as goal

abbrev pub invariant-loop-seat : goal.invariant-loop-seat
invariant-loop-seat g l = record {
  dealt : AreDealt (IsSeatOf g.T.Seat.pass_of l.pool) l.pool l.seats l.threads;
  parts : all_parts g.T.Seat.parts_of l.seats l.threads ≡ sum_by g.T.Seat.parts_of l.fn.seats.items;
  room : vec_len l.seats + vec_len l.threads ≤ vec_capacity l.threads;
}

abbrev pub decreases-loop-seat : goal.decreases-loop-seat
decreases-loop-seat g l = vec_len l.seats
