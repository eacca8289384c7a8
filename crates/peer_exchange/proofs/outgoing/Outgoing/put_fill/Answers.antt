use Rattle.std.proofs.Common.{◌∙◌, sym, subst}
use Rattle.peer_outbox.specs.Outboxes.{EndsIn}
use Rattle.peer_outbox.proofs.OutboxLemmas.{value_ends, value_reply_of}
use Rattle.peer_exchange.proofs.outgoing.Outgoing.put_fill.Goals as goal

pub put_value-requires : goal.put_value-requires
put_value-requires g c =
    let value = c.in-Some-value_of.value.now in
    let of = c.in-Some-value_of.ensures in
    let is = value_reply_of c.args.form.closing c.args.form.bare c.args.fill.now.answer value c.in-Some.reply c.in-Some.ensures of.0 of.1 in
    subst (EndsIn value) (sym (c.parts.ensures ∙ is)) (value_ends c.args.form.closing value)
