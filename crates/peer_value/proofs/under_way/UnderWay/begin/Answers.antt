use Rattle.std.proofs.Common.{rules}
use Rattle.peer_value.proofs.under_way.UnderWay.begin.Goals as goal

pub invariant_of-result : goal.invariant_of-result
invariant_of-result g c = search rules
