use Rattle.std.proofs.Common.{rules}
use Rattle.peer_table.proofs.index.put_span.Goals as goal

pub returns-clause-fresh : goal.returns-clause-fresh
returns-clause-fresh c = search rules
