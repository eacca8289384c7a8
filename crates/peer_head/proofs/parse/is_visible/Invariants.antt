use Rattle.peer_head.proofs.VisibleLemmas.{VisibleUpTo}
use Rattle.peer_head.proofs.parse.is_visible.Given as goal

abbrev pub invariant-loop-b : goal.invariant-loop-b
invariant-loop-b l = VisibleUpTo l.bytes l.b-index l.visible
