use Rattle.std.proofs.Common.{sym}
use Rattle.peer_head.proofs.SummaryLemmas.{agreed_fault}
use Rattle.peer_head.proofs.summary.content_fault.Goals as goal

pub returns-then-is_zero : goal.returns-then-is_zero
returns-then-is_zero c = λ vs h. sym (agreed_fault vs _ _ h c.if-is_zero.ensures)

pub returns-else-is_zero : goal.returns-else-is_zero
returns-else-is_zero c = λ vs h. sym (agreed_fault vs _ _ h c.if-is_zero.ensures)
