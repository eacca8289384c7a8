-- The start of a text.
use Rattle.std.specs.Prelude.{ℕ, List, take}
use Rattle.peer_access.specs.declared.start.TextStart.{TextStart}

-- its bytes
abbrev pub start_of : TextStart → List ℕ
start_of s = take s.len s.bytes
