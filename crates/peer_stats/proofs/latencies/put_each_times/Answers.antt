use Rattle.peer_stats.specs.Latencies.{group_times_text}
use Rattle.peer_stats.proofs.EachLemmas.{one_more}
use Rattle.peer_stats.proofs.latencies.put_each_times.Goals as goal

pub loop-group-preserved : goal.loop-group-preserved
loop-group-preserved c = one_more (group_times_text c.args.name.now c.args.time) c.args.page.now.items c.args.groups.now c.loop-group.group-index _ c.loop-group-test.true c.loop-group.invariant c.in_ok-put_group_times.ensures
