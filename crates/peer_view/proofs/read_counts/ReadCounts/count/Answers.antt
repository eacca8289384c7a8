use Rattle.std.proofs.Common.{rules}
use Rattle.peer_view.proofs.read_counts.ReadCounts.count.Goals as goal

pub returns-then-not-is_empty-clause-end_told : goal.returns-then-not-is_empty-clause-end_told
returns-then-not-is_empty-clause-end_told c = search rules
