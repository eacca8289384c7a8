use Rattle.std.proofs.Common.{◌≡◌, ◌++◌, flat_map, take}
use Rattle.peer_stats.specs.Latencies.{bound_bucket_text}
use Rattle.peer_stats.proofs.latencies.put_bound_buckets.Given as goal

abbrev pub invariant-loop-bound : goal.invariant-loop-bound
invariant-loop-bound l = l.page.items ≡ l.fn.page.items ++ flat_map (bound_bucket_text l.name l.of l.value l.counts.places) (take l.bound-index l.counts.bounds.now)
