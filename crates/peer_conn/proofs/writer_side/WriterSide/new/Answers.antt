use Rattle.std.proofs.Common.{rules}
use Rattle.peer_conn.proofs.writer_side.WriterSide.new.Goals as goal

pub returns-clause-strangers : goal.returns-clause-strangers
returns-clause-strangers g c = search rules
