use Rattle.peer_fill.specs.Claiming.{KeepsSeat}
use Rattle.peer_socket.proofs.acceptor.Acceptor.serve_rounds.Given as goal

abbrev pub invariant-loop-alloc : goal.invariant-loop-alloc
invariant-loop-alloc g l = KeepsSeat l.pool l.fn.seat l.seat

abbrev pub decreases-loop-alloc : goal.decreases-loop-alloc
decreases-loop-alloc g l = l.rounds.left
