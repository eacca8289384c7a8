use Rattle.std.proofs.Common.{rules}
use Rattle.peer_stats.proofs.counts.TrafficCounts.plus.Goals as goal

pub returns : goal.returns
returns c = search rules
