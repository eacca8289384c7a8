use Rattle.peer_loop.specs.StartedThreads.{KeepAll}
use Rattle.peer_loop.proofs.server_threads.ServerThreads.start.Given as goal

abbrev pub invariant-loop : goal.invariant-loop
invariant-loop g l = KeepAll g.H.Wires.carried l.fn.self l.self
