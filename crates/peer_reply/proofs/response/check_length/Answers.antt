use Rattle.std.proofs.Common.{rules}
use Rattle.peer_reply.proofs.response.check_length.Goals as goal

pub returns-then-bytes-count-2 : goal.returns-then-bytes-count-2
returns-then-bytes-count-2 c = search rules
