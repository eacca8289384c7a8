use Rattle.std.proofs.Common.{◌+◌, ◌↔◌, IsTrue}
use Rattle.peer_head.specs.Heads.{NeighboursMatch}
use Rattle.peer_head.proofs.parse.is_matching.Given as goal

abbrev pub invariant-loop-i : goal.invariant-loop-i
invariant-loop-i l = IsTrue l.matching ↔ NeighboursMatch l.bytes l.from (l.from + l.i)
