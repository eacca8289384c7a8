use Rattle.std.proofs.Common.{rules}
use Rattle.peer_fill.proofs.counts.AskCounts.count.Goals as goal

pub overflow_add-self-in-Value : goal.overflow_add-self-in-Value
overflow_add-self-in-Value c = search rules

pub returns-in-Value : goal.returns-in-Value
returns-in-Value c = search rules
