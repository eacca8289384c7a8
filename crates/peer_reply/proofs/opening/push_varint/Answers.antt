use Rattle.std.proofs.lemmas.Grind.{common_steps}
use Rattle.std.proofs.Common.{arith}
use Rattle.peer_reply.proofs.opening.push_varint.Goals as goal

pub returns : goal.returns
returns c = grind (arith, common_steps)
