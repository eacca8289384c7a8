use Rattle.std.proofs.Common.{rules}
use Rattle.peer_http.proofs.content.append.Goals as goal

pub returns-in-Ok-clause-within : goal.returns-in-Ok-clause-within
returns-in-Ok-clause-within c = search rules
