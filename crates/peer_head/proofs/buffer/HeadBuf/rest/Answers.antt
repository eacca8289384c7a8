use Rattle.std.proofs.Common.{rules}
use Rattle.peer_head.proofs.buffer.HeadBuf.rest.Goals as goal

pub returns-clause-bytes : goal.returns-clause-bytes
returns-clause-bytes c = search rules
