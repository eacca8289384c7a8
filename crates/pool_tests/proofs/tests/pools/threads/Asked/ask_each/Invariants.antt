use Rattle.peer_fill.specs.Pools.{IsConnSeatOf}
use Rattle.pool_tests.proofs.tests.pools.threads.Asked.ask_each.Given as goal

abbrev pub invariant-loop-number : goal.invariant-loop-number
invariant-loop-number g l = IsConnSeatOf l.self.pool.now l.seat
