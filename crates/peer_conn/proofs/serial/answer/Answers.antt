use Rattle.std.proofs.Common.{sym, subst, [], ◌∷◌}
use Rattle.peer_reply.specs.declared.wish.WishBody.{WishBody}
use Rattle.peer_conn.specs.Responses.{PutsReplies}
use Rattle.peer_conn.proofs.ResponseLemmas.{replies_fault, replies_fill}
use Rattle.peer_conn.proofs.serial.answer.Goals as goal

pub returns-in-Fault : goal.returns-in-Fault
returns-in-Fault g c =
    let w = c.args.wish in
    let P : WishBody → Type 0 = λ b. PutsReplies (g.S.Source.answers c.args.source.now) c.args.responses.now c.put_fault.new.self (record { body = b; closing = w.closing; bare = w.bare } ∷ []) in
    subst P (sym c.in-Fault.is) (replies_fault c.in-Fault.fault w.closing w.bare c.put_fault.ensures)

pub returns-in-Get : goal.returns-in-Get
returns-in-Get g c =
    let w = c.args.wish in
    let P : WishBody → Type 0 = λ b. PutsReplies (g.S.Source.answers c.args.source.now) c.args.responses.now c.put_fill.new.self (record { body = b; closing = w.closing; bare = w.bare } ∷ []) in
    subst P (sym c.in-Get.is) (replies_fill c.in-Get.group c.in-Get.key w.closing w.bare c.run-fill.result.answer c.run-fill.ensures.answer c.put_fill.ensures)
