use Rattle.std.proofs.Common.{rules}
use Rattle.peer_stats.proofs.answer.is_reading.Goals as goal

pub returns-else-eq : goal.returns-else-eq
returns-else-eq c = search rules
