use Rattle.std.proofs.Common.{rules}
use Rattle.peer_view.proofs.mem_reader.MemReaderPeerRead.read.Goals as goal

pub returns-then-at-len-clause-bytes : goal.returns-then-at-len-clause-bytes
returns-then-at-len-clause-bytes c = search rules

pub returns-then-at-len-clause-piece : goal.returns-then-at-len-clause-piece
returns-then-at-len-clause-piece c = search rules
