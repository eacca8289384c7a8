use Rattle.std.proofs.Common.{◌≡◌, ℕ}
use Rattle.peer_value.specs.Waitings.{line_of}
use Rattle.peer_value.proofs.waiting.Waiting.reserve_lines.Given as goal

abbrev pub invariant-loop : goal.invariant-loop
invariant-loop g l = (n : ℕ) → line_of l.self n ≡ line_of l.initial.self n
