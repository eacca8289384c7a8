use Rattle.peer_fill.specs.Pools.{IsConnSeatOf}
use Rattle.pool_tests.proofs.tests.pools.threads.Asked.use_seat.Given as goal

abbrev pub invariant-loop-round : goal.invariant-loop-round
invariant-loop-round g l = IsConnSeatOf l.self.pool.now l.seat
