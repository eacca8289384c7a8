use Rattle.std.proofs.Common.{rules}
use Rattle.peer_value.proofs.done.outcome_of.Goals as goal

pub returns-in-Err-clause-failed : goal.returns-in-Err-clause-failed
returns-in-Err-clause-failed c = search rules
