use Rattle.std.proofs.Common.{◌≡◌, true, append_assoc}
use Rattle.peer_reply.proofs.head.write_head.Goals as goal

pub returns-then-closing : goal.returns-then-closing
returns-then-closing c =
    let closes : c.args.closing ≡ true = c.if-closing.true in
    rw (
      closes,
      c.append-then-closing.ensures,
      c.append-2.ensures,
      c.append.ensures,
      c.clear.ensures,
      c.as_bytes.ensures.value,
      c.format.ensures.text,
    ) (simp append_assoc)
