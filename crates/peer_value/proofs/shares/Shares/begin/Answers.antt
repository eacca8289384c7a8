use Rattle.std.proofs.Common.{rules}
use Rattle.peer_value.proofs.shares.Shares.begin.Goals as goal

pub returns-in-Some-clause-same : goal.returns-in-Some-clause-same
returns-in-Some-clause-same c = search rules

pub returns-in_default-clause-same : goal.returns-in_default-clause-same
returns-in_default-clause-same c = search rules
