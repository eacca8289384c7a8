use Rattle.peer_fill.proofs.Ordering.{pops}
use Rattle.peer_fill.proofs.pool.Pool.pop_job.Goals as goal

pub pop_as-requires-clause-rule : goal.pop_as-requires-clause-rule
pop_as-requires-clause-rule g c = (pops _ _ c.requires.part, λ items views held at. tt)
