use Rattle.std.proofs.Common.{rules}
use Rattle.peer_outbox.proofs.outbox.Outbox.second.Goals as goal

pub returns-in-None-clause-second : goal.returns-in-None-clause-second
returns-in-None-clause-second c = search rules

pub returns-in-None-2-clause-second : goal.returns-in-None-2-clause-second
returns-in-None-2-clause-second c = search rules

pub returns-in-Some-clause-second : goal.returns-in-Some-clause-second
returns-in-Some-clause-second c = search rules
