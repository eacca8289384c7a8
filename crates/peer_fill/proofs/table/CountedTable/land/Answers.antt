use Rattle.std.proofs.Common.{rules}
use Rattle.peer_fill.proofs.table.CountedTable.land.Goals as goal

pub returns-clause-lands : goal.returns-clause-lands
returns-clause-lands g c = search rules
