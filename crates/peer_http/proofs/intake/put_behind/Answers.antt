use Rattle.std.proofs.Common.{rules}
use Rattle.peer_http.proofs.intake.put_behind.Goals as goal

pub returns-clause-put : goal.returns-clause-put
returns-clause-put c = search rules
