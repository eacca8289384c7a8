use Rattle.std.proofs.Common.{rules}
use Rattle.peer_fill.proofs.pool.Pool.finish.Goals as goal

pub settle-requires-clause-place : goal.settle-requires-clause-place
settle-requires-clause-place g c = search rules

pub settle-requires-clause-answer : goal.settle-requires-clause-answer
settle-requires-clause-answer g c = search rules
