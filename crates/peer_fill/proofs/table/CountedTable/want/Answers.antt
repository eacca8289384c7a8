use Rattle.std.proofs.Common.{rules}
use Rattle.peer_fill.proofs.table.CountedTable.want.Goals as goal

pub invariant_of-self : goal.invariant_of-self
invariant_of-self g c = search rules
