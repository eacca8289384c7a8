use Rattle.peer_fill.proofs.Ordering.{pushes}
use Rattle.peer_fill.proofs.pool.Pool.push.Goals as goal

pub push_as-requires-clause-rule : goal.push_as-requires-clause-rule
push_as-requires-clause-rule g c = (pushes _ _ _ _ c.requires.part, λ items views held at. tt)
