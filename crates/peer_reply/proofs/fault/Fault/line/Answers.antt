use Rattle.std.proofs.Common.{rules}
use Rattle.peer_reply.proofs.fault.Fault.line.Goals as goal

pub returns-in-BadLength-clause-reply : goal.returns-in-BadLength-clause-reply
returns-in-BadLength-clause-reply c = search rules

pub returns-in-Escape-clause-reply : goal.returns-in-Escape-clause-reply
returns-in-Escape-clause-reply c = search rules

pub returns-in-Host-clause-reply : goal.returns-in-Host-clause-reply
returns-in-Host-clause-reply c = search rules

pub returns-in-NoKey-clause-reply : goal.returns-in-NoKey-clause-reply
returns-in-NoKey-clause-reply c = search rules

pub returns-in-NotAHead-clause-reply : goal.returns-in-NotAHead-clause-reply
returns-in-NotAHead-clause-reply c = search rules

pub returns-in-Target-clause-reply : goal.returns-in-Target-clause-reply
returns-in-Target-clause-reply c = search rules
