use Rattle.std.proofs.Common.{rules}
use Rattle.peer_value.proofs.under_way.UnderWay.receive.Goals as goal

pub returns-clause-came : goal.returns-clause-came
returns-clause-came g c = search rules
