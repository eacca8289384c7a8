use Rattle.std.proofs.Common.{take, All, IsTrue}
use Rattle.peer_wish.specs.Lasts.{IsKeyByte}
use Rattle.peer_wish.proofs.last_head.are_key_bytes.Given as goal

abbrev pub invariant-loop-b : goal.invariant-loop-b
invariant-loop-b l = IsTrue l.plain → All IsKeyByte (take l.b-index l.bytes)
