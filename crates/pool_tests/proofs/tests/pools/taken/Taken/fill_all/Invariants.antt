use Rattle.peer_fill.specs.Pools.{IsFillSeatOf}
use Rattle.pool_tests.proofs.tests.pools.taken.Taken.fill_all.Given as goal

abbrev pub invariant-loop-job : goal.invariant-loop-job
invariant-loop-job g l = IsFillSeatOf l.self.pool.now l.seat
