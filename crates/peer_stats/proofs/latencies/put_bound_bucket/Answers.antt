use Rattle.std.proofs.Common.{◌∙◌, ◌++◌, ap}
use Rattle.peer_stats.specs.Latencies.{bucket_text}
use Rattle.peer_stats.proofs.latencies.put_bound_bucket.Goals as goal

pub returns : goal.returns
returns c = c.in_ok-put_bucket.ensures ∙ ap (λ n. c.args.page.now.items ++ bucket_text c.args.name.now c.args.of c.args.value.now c.args.bound.now.text.now n) c.count_in_first-count.ensures
