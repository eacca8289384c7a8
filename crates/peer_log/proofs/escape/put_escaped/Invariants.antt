use Rattle.std.proofs.Common.{◌≡◌, ◌++◌, flat_map, take}
use Rattle.peer_log.specs.Escapes.{escaped_byte}
use Rattle.peer_log.proofs.escape.put_escaped.Given as goal

abbrev pub invariant-loop-byte : goal.invariant-loop-byte
invariant-loop-byte l = l.line.items ≡ l.fn.line.items ++ flat_map (escaped_byte l.escapes) (take l.byte-index l.text)
