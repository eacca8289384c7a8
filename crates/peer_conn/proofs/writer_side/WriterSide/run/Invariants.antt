use Rattle.peer_wish.specs.Allowed.{allows}
use Rattle.peer_conn.specs.WriterSides.{AnswersTickets}
use Rattle.peer_conn.proofs.writer_side.WriterSide.run.Given as goal

abbrev pub invariant-loop : goal.invariant-loop
invariant-loop g l = AnswersTickets (allows g.S.Source.allowed) l.fn.self l.self
