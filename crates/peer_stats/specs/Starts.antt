-- The start of a key.
use Rattle.std.specs.Prelude.{ℕ, List, take}
use Rattle.peer_stats.specs.declared.last.KeyStart.{KeyStart}

-- its bytes
abbrev pub start_of : KeyStart → List ℕ
start_of s = take s.len s.bytes
