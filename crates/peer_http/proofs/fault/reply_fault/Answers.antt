use Rattle.std.proofs.Common.{rules}
use Rattle.peer_http.proofs.fault.reply_fault.Goals as goal

pub returns-in-Lost-clause-silent : goal.returns-in-Lost-clause-silent
returns-in-Lost-clause-silent c = search rules
