use Rattle.std.proofs.Common.{sym, subst, [], ◌∷◌}
use Rattle.peer_wish.specs.Tickets.{body_by}
use Rattle.peer_wish.specs.Allowed.{allows}
use Rattle.peer_conn.specs.Responses.{PutsReplies}
use Rattle.peer_conn.proofs.ResponseLemmas.{replies_fault}
use Rattle.peer_conn.proofs.writer_side.WriterSide.put.Goals as goal

pub returns-in-Fault-clause-replies : goal.returns-in-Fault-clause-replies
returns-in-Fault-clause-replies g c =
    let t = c.args.ticket in
    subst (λ b. PutsReplies (allows g.S.Source.allowed) c.args.self.now.responses c.put_fault.new.self (record { body = body_by b; closing = t.closing; bare = t.bare } ∷ [])) (sym c.in-Fault.is) (replies_fault c.in-Fault.fault t.closing t.bare c.put_fault.ensures)
