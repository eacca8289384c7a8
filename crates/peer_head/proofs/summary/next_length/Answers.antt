use Rattle.std.proofs.Common.{sym}
use Rattle.std.proofs.lemmas.Slice.Eq.{bytes_eq-Decides}
use Rattle.peer_head.proofs.SummaryLemmas.{agreed_more, differing_more}
use Rattle.peer_head.proofs.summary.next_length.Goals as goal

pub returns-then-eq : goal.returns-then-eq
returns-then-eq c = λ vs h. agreed_more vs _ _ h ((bytes_eq-Decides c.args.first.now c.args.value.now).0 (sym c.if-eq.ensures))

pub returns-else-eq : goal.returns-else-eq
returns-else-eq c = λ vs h. differing_more vs _ _ h (sym c.if-eq.ensures)
