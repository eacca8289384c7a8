use Rattle.peer_fill.specs.Pools.{IsFillSeatOf}
use Rattle.pool_tests.proofs.tests.pools.taken.Taken.take_some.Given as goal

abbrev pub invariant-loop : goal.invariant-loop
invariant-loop g l = IsFillSeatOf l.self.pool.now l.seat
