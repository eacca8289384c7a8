use Rattle.std.proofs.Common.{◌∙◌, ◌++◌, ap}
use Rattle.peer_stats.specs.Latencies.{times_text}
use Rattle.peer_stats.specs.declared.latencies.Which.TheVariants as which
use Rattle.peer_stats.proofs.latencies.put_group_times.Goals as goal

pub returns : goal.returns
returns c = c.in_ok-put_times.ensures ∙ ap (λ t. c.args.page.now.items ++ times_text c.args.name.now which.Group c.args.group.now.name.now t) c.of-counts.ensures
