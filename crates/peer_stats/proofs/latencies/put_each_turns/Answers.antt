use Rattle.peer_stats.specs.Latencies.{loop_turns_text}
use Rattle.peer_stats.proofs.EachLemmas.{one_more}
use Rattle.peer_stats.proofs.latencies.put_each_turns.Goals as goal

pub loop-of_loop-preserved : goal.loop-of_loop-preserved
loop-of_loop-preserved c = one_more (loop_turns_text) c.args.page.now.items c.args.turns.now c.loop-of_loop.of_loop-index _ c.loop-of_loop-test.true c.loop-of_loop.invariant c.in_ok-put_loop_turns.ensures
