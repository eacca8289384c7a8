use Rattle.std.proofs.Common.{rules}
use Rattle.peer_stats.proofs.answer.page_at.Goals as goal

pub returns-then-eq-2 : goal.returns-then-eq-2
returns-then-eq-2 c = search rules
