use Rattle.std.proofs.Common.{◌+◌, ◌-◌, List}
use Rattle.peer_reply.specs.declared.wish.Wish.{Wish}
use Rattle.peer_flight.specs.Events.{REPLIES}
use Rattle.peer_conn.specs.Requests.{Receives}
use Rattle.peer_conn.specs.ReaderSides.{PutsTickets}
use Rattle.peer_conn.proofs.reader_side.ReaderSide.take_requests.Given as goal

abbrev pub invariant-loop-wish : goal.invariant-loop-wish
invariant-loop-wish g l =
    (ws : List Wish) × Receives (g.S.Source.number_of l.names) l.fn.self.requests l.self.requests ws
    × PutsTickets l.pool l.fn.self.seat l.self.seat l.fn.self.lane l.self.lane ws

abbrev pub decreases-loop-wish : goal.decreases-loop-wish
decreases-loop-wish g l = (REPLIES - l.self.requests.count) + l.self.requests.left
