use Rattle.std.specs.Prelude.{◌≡◌}
use Rattle.peer_fill.specs.Pools.{IsConnSeatOf}
use Rattle.peer_fill.specs.Seats.{asks_of, conn_parts}
use Rattle.peer_fill.proofs.pool.Pool.put_all.Given as goal

abbrev pub invariant-loop : goal.invariant-loop
invariant-loop g l = record {
  own : IsConnSeatOf l.self l.seat;
  parts : conn_parts l.seat ≡ conn_parts l.fn.seat;
  counts : asks_of l.seat ≡ asks_of l.fn.seat;
}
