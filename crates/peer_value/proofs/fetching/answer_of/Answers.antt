use Rattle.std.proofs.Common.{rules}
use Rattle.peer_value.proofs.fetching.answer_of.Goals as goal

pub returns-clause-keeps : goal.returns-clause-keeps
returns-clause-keeps c = search rules

pub returns-clause-status : goal.returns-clause-status
returns-clause-status c = search rules

pub returns-clause-value : goal.returns-clause-value
returns-clause-value c = search rules
