use Rattle.std.proofs.Common.{rules}
use Rattle.peer_value.proofs.endpoints.Endpoints.of.Goals as goal

pub returns-clause-number : goal.returns-clause-number
returns-clause-number c = search rules
