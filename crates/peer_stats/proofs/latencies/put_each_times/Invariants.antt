use Rattle.std.proofs.Common.{◌≡◌, ◌++◌, flat_map, take}
use Rattle.peer_stats.specs.Latencies.{group_times_text}
use Rattle.peer_stats.proofs.latencies.put_each_times.Given as goal

abbrev pub invariant-loop-group : goal.invariant-loop-group
invariant-loop-group l = l.page.items ≡ l.fn.page.items ++ flat_map (group_times_text l.name l.time) (take l.group-index l.groups)
