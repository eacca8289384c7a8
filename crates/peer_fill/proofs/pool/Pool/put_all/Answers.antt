use Rattle.std.proofs.Common.{rules}
use Rattle.peer_fill.proofs.pool.Pool.put_all.Goals as goal

pub returns-then-put_left-clause-none : goal.returns-then-put_left-clause-none
returns-then-put_left-clause-none g c = search rules
