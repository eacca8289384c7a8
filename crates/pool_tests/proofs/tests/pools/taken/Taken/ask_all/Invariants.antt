use Rattle.peer_fill.specs.Pools.{IsConnSeatOf}
use Rattle.pool_tests.proofs.tests.pools.taken.Taken.ask_all.Given as goal

abbrev pub invariant-loop-number : goal.invariant-loop-number
invariant-loop-number g l = IsConnSeatOf l.self.pool.now l.seat
