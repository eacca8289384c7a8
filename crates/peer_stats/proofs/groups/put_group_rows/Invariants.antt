use Rattle.std.proofs.Common.{◌≡◌, ◌++◌, flat_map, take}
use Rattle.peer_stats.specs.Groups.{each_text}
use Rattle.peer_stats.proofs.groups.put_group_rows.Given as goal

abbrev pub invariant-loop-row : goal.invariant-loop-row
invariant-loop-row l = l.page.items ≡ l.fn.page.items ++ flat_map (λ row. each_text l.name row.0.now row.1 l.groups) (take l.row-index l.rows)
