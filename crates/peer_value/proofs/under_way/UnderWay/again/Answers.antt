use Rattle.std.proofs.Common.{rules}
use Rattle.peer_value.proofs.under_way.UnderWay.again.Goals as goal

pub returns-clause-refused : goal.returns-clause-refused
returns-clause-refused g c = search rules
