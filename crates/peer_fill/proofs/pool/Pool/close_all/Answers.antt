use Rattle.std.proofs.Common.{rules}
use Rattle.peer_fill.proofs.pool.Pool.close_all.Goals as goal

pub returns-clause-balances : goal.returns-clause-balances
returns-clause-balances g c = search rules

pub returns-clause-sums : goal.returns-clause-sums
returns-clause-sums g c = search rules
