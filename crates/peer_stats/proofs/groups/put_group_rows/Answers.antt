use Rattle.peer_stats.specs.Groups.{each_text}
use Rattle.peer_stats.proofs.EachLemmas.{one_more}
use Rattle.peer_stats.proofs.groups.put_group_rows.Goals as goal

pub loop-row-preserved : goal.loop-row-preserved
loop-row-preserved c = one_more (λ row. each_text c.args.name.now row.0.now row.1 c.args.groups.now) c.args.page.now.items c.args.rows.now c.loop-row.row-index _ c.loop-row-test.true c.loop-row.invariant c.in_ok-put_each.ensures
