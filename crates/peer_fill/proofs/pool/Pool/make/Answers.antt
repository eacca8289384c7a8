use Rattle.std.proofs.Common.{rules}
use Rattle.peer_fill.proofs.pool.Pool.make.Goals as goal

pub returns-in-Some-clause-made : goal.returns-in-Some-clause-made
returns-in-Some-clause-made g c = search rules

pub returns-in-Some-clause-kept : goal.returns-in-Some-clause-kept
returns-in-Some-clause-kept g c = search rules
