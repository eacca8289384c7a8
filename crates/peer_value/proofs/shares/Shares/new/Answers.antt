use Rattle.std.proofs.Common.{rules}
use Rattle.peer_value.proofs.shares.Shares.new.Goals as goal

pub returns-clause-alone : goal.returns-clause-alone
returns-clause-alone c = search rules

pub returns-clause-each : goal.returns-clause-each
returns-clause-each c = search rules
