use Rattle.std.proofs.Common.{◌≡◌, ◌+◌, length, take}
use Rattle.peer_reply.specs.Texts.{joined}
use Rattle.peer_outbox.proofs.outbox.with_parts.Given as goal

abbrev pub invariant-loop-i : goal.invariant-loop-i
invariant-loop-i l = l.all ≡ l.bytes + length (joined (take l.i l.parts))
