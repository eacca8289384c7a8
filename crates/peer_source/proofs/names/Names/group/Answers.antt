use Rattle.std.proofs.Common.{rules}
use Rattle.peer_source.proofs.names.Names.group.Goals as goal

pub returns-clause-number : goal.returns-clause-number
returns-clause-number g c = search rules
