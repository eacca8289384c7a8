use Rattle.std.proofs.Common.{◌≡◌, ◌++◌, flat_map, take}
use Rattle.peer_stats.specs.Groups.{group_text}
use Rattle.peer_stats.proofs.groups.put_each.Given as goal

abbrev pub invariant-loop-group : goal.invariant-loop-group
invariant-loop-group l = l.page.items ≡ l.fn.page.items ++ flat_map (group_text l.name l.labels l.number) (take l.group-index l.groups)
