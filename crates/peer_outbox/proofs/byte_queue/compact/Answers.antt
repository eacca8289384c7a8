use Rattle.std.proofs.Common.{rules}
use Rattle.peer_outbox.proofs.byte_queue.compact.Goals as goal

pub returns-else-start-len-clause-few : goal.returns-else-start-len-clause-few
returns-else-start-len-clause-few c = search rules
