use Rattle.peer_fill.proofs.pool.Pool.take.Goals as goal

pub returns-in-IfThere-clause-popped : goal.returns-in-IfThere-clause-popped
returns-in-IfThere-clause-popped g c = c.pop_job.ensures.popped
