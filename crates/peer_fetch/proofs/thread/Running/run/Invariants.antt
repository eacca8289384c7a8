use Rattle.peer_fetch.specs.Threads.{IsLaterSeat}
use Rattle.peer_fetch.proofs.thread.Running.run.Given as goal

abbrev pub invariant-loop : goal.invariant-loop
invariant-loop g l = IsLaterSeat l.jobs.pool.now l.fn.seat l.seat
