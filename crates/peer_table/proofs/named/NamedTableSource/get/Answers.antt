use Rattle.std.proofs.Common.{rules}
use Rattle.peer_table.proofs.named.NamedTableSource.get.Goals as goal

pub returns : goal.returns
returns c = search rules
