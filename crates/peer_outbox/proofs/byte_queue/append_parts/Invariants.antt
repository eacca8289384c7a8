use Rattle.std.proofs.Common.{◌≡◌, ◌++◌, take}
use Rattle.peer_reply.specs.Texts.{joined}
use Rattle.peer_outbox.proofs.byte_queue.append_parts.Given as goal

abbrev pub invariant-loop-i : goal.invariant-loop-i
invariant-loop-i l = l.bytes.items ≡ l.fn.bytes.items ++ joined (take l.i l.parts)
