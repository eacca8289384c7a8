use Rattle.std.proofs.Common.{rules}
use Rattle.peer_outbox.proofs.byte_queue.ByteQueue.leave_with.Goals as goal

pub returns-clause-view : goal.returns-clause-view
returns-clause-view c = search rules
