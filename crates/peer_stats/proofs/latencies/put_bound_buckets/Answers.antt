use Rattle.peer_stats.specs.Latencies.{bound_bucket_text}
use Rattle.peer_stats.proofs.EachLemmas.{one_more}
use Rattle.peer_stats.proofs.latencies.put_bound_buckets.Goals as goal

pub loop-bound-preserved : goal.loop-bound-preserved
loop-bound-preserved c = one_more (bound_bucket_text c.args.name.now c.args.of c.args.value.now c.args.counts.now.places) c.args.page.now.items c.args.counts.now.bounds.now c.loop-bound.bound-index _ c.loop-bound-test.true c.loop-bound.invariant c.in_ok-put_bound_bucket.ensures
