use Rattle.peer_fill.specs.Pools.{IsConnSeatOf}
use Rattle.fetch_tests.proofs.tests.asking.Client.ask_hung.Given as goal

abbrev pub invariant-loop-number : goal.invariant-loop-number
invariant-loop-number g l = IsConnSeatOf l.self.pool.now l.seat
