use Rattle.std.proofs.Common.{rules}
use Rattle.peer_exchange.proofs.outgoing.Outgoing.put_filled.Goals as goal

pub returns-in-Ok : goal.returns-in-Ok
returns-in-Ok g c = search rules

pub returns-in-Ok-put_fill : goal.returns-in-Ok-put_fill
returns-in-Ok-put_fill g c = search rules
