use Rattle.std.proofs.Common.{◌+◌, ◌-◌, List}
use Rattle.peer_reply.specs.declared.wish.Wish.{Wish}
use Rattle.peer_flight.specs.Events.{REPLIES}
use Rattle.peer_conn.specs.Requests.{Receives}
use Rattle.peer_conn.specs.Responses.{PutsReplies}
use Rattle.peer_conn.proofs.serial.answer_all.Given as goal

abbrev pub invariant-loop-wish : goal.invariant-loop-wish
invariant-loop-wish g l = (ws : List Wish) × Receives (g.S.Source.number_of l.names) l.fn.requests l.requests ws × PutsReplies (g.S.Source.answers l.source) l.fn.responses l.responses ws

abbrev pub decreases-loop-wish : goal.decreases-loop-wish
decreases-loop-wish g l = (REPLIES - l.requests.count) + l.requests.left
