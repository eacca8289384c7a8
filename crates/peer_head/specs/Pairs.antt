-- Pairs CR LF that stand between two heads (RFC 9112, section 2.2).
use Rattle.std.specs.Prelude.{◌≡◌, ℕ, List}
use Rattle.peer_head.specs.Blocks.{pairs}

-- only pairs
abbrev pub ArePairs : List ℕ → Type 0
ArePairs bytes = (n : ℕ) × (bytes ≡ pairs n)
