use Rattle.peer_conn.proofs.RequestLemmas.{halts, receives_none}
use Rattle.peer_conn.proofs.serial.write_and_read.Goals as goal

pub returns-then-not-is_active-clause-reads : goal.returns-then-not-is_active-clause-reads
returns-then-not-is_active-clause-reads g c numbers = halts (receives_none _)
