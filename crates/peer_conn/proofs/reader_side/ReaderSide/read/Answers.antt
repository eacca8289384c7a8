use Rattle.peer_conn.proofs.RequestLemmas.{halts, receives_none}
use Rattle.peer_conn.proofs.reader_side.ReaderSide.read.Goals as goal

pub returns-then-is_stopped-clause-reads : goal.returns-then-is_stopped-clause-reads
returns-then-is_stopped-clause-reads g c numbers = halts (receives_none _)
