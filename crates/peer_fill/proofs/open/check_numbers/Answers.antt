use Rattle.std.proofs.Common.{rules}
use Rattle.peer_fill.proofs.open.check_numbers.Goals as goal

pub returns-then-workers-eq0-clause-workers : goal.returns-then-workers-eq0-clause-workers
returns-then-workers-eq0-clause-workers c = search rules

pub returns-then-workers-eq0-clause-conns : goal.returns-then-workers-eq0-clause-conns
returns-then-workers-eq0-clause-conns c = search rules

pub returns-then-workers-eq0-clause-groups : goal.returns-then-workers-eq0-clause-groups
returns-then-workers-eq0-clause-groups c = search rules
