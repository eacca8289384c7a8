use Rattle.std.proofs.Common.{rules}
use Rattle.peer_exchange.proofs.outgoing.look_once.Goals as goal

pub returns-clause-none : goal.returns-clause-none
returns-clause-none g c = search rules
