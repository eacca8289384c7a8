use Rattle.std.proofs.Common.{rules}
use Rattle.peer_conn.proofs.write_buffer.WriteBuffer.flush.Goals as goal

pub returns-clause-sends : goal.returns-clause-sends
returns-clause-sends g c = search rules
