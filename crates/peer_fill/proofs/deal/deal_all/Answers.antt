use Rattle.std.proofs.Common.{arith, ap}
use Rattle.peer_fill.specs.declared.jobs.PassLog.{PassLog}
use Rattle.peer_fill.proofs.Ordering.{forks}
use Rattle.peer_fill.proofs.deal.deal_all.Goals as goal

pub another-rest-requires-clause-rule : goal.another-rest-requires-clause-rule
another-rest-requires-clause-rule g c = forks _ _ 16 (omega (arith, ap (λ (v : PassLog). v.parts) c.in_ok-jobs.ensures.log))
