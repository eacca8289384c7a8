use Rattle.std.proofs.Common.{◌≡◌, ◌++◌, flat_map, take}
use Rattle.peer_stats.specs.Latencies.{loop_turns_text}
use Rattle.peer_stats.proofs.latencies.put_each_turns.Given as goal

abbrev pub invariant-loop-of_loop : goal.invariant-loop-of_loop
invariant-loop-of_loop l = l.page.items ≡ l.fn.page.items ++ flat_map (loop_turns_text) (take l.of_loop-index l.turns)
