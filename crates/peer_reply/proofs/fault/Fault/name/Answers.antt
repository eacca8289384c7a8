use Rattle.std.proofs.Common.{rules}
use Rattle.peer_reply.proofs.fault.Fault.name.Goals as goal

pub returns-in-NoGroup : goal.returns-in-NoGroup
returns-in-NoGroup c = search rules
