use Rattle.std.specs.Prelude.{◌≡◌, length}
use Rattle.peer_stats.proofs.counters.Counters.read_turns.Given as goal

abbrev pub invariant-loop-number : goal.invariant-loop-number
invariant-loop-number l = length l.all.items ≡ l.number
