use Rattle.peer_stats.specs.Groups.{group_text}
use Rattle.peer_stats.proofs.EachLemmas.{one_more}
use Rattle.peer_stats.proofs.groups.put_each.Goals as goal

pub loop-group-preserved : goal.loop-group-preserved
loop-group-preserved c = one_more (group_text c.args.name.now c.args.labels.now c.args.number) c.args.page.now.items c.args.groups.now c.loop-group.group-index _ c.loop-group-test.true c.loop-group.invariant c.in_ok-put_group.ensures
