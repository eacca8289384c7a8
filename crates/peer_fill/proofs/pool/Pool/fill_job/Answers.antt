use Rattle.std.proofs.Common.{rules}
use Rattle.peer_fill.proofs.pool.Pool.fill_job.Goals as goal

pub settle-requires-clause-place : goal.settle-requires-clause-place
settle-requires-clause-place g c = search rules
