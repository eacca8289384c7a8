use Rattle.std.proofs.lemmas.Grind.{common_steps}
use Rattle.std.proofs.Common.{arith}
use Rattle.peer_reply.proofs.reply.reply_of.Goals as goal

pub returns-else-form : goal.returns-else-form
returns-else-form c = grind (arith, common_steps)

pub returns-then-form : goal.returns-then-form
returns-then-form c = grind (arith, common_steps)
