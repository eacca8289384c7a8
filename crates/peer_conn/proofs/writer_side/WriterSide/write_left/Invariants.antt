use Rattle.std.proofs.Common.{List}
use Rattle.peer_reply.specs.declared.wish.Wish.{Wish}
use Rattle.peer_lane.specs.Lanes.{tickets_put, tickets_taken}
use Rattle.peer_wish.specs.Allowed.{allows}
use Rattle.peer_conn.specs.Responses.{PutsReplies}
use Rattle.peer_conn.specs.Strangers.{CountsAmong}
use Rattle.peer_conn.proofs.WriterSideLemmas.{Drains}
use Rattle.peer_conn.proofs.writer_side.WriterSide.write_left.Given as goal

abbrev pub invariant-loop : goal.invariant-loop
invariant-loop g l =
    (ws : List Wish) × Drains l.fn.self.lane l.self.lane (tickets_put l.fn.put) ws l.counter l.left
    × PutsReplies (allows g.S.Source.allowed) l.fn.self.responses l.self.responses ws × CountsAmong (tickets_taken l.fn.self.lane) (tickets_taken l.self.lane) l.fn.self.strangers l.self.strangers
