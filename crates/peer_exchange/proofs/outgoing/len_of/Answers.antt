use Rattle.std.proofs.Common.{rules}
use Rattle.peer_exchange.proofs.outgoing.len_of.Goals as goal

pub returns-in-Found : goal.returns-in-Found
returns-in-Found g c = search rules
