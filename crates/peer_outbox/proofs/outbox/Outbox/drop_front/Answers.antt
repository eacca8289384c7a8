use Rattle.std.proofs.lemmas.Grind.{common_steps}
use Rattle.std.proofs.Common.{arith}
use Rattle.peer_outbox.proofs.outbox.Outbox.drop_front.Goals as goal

pub returns-then-first-n : goal.returns-then-first-n
returns-then-first-n c = grind (arith, common_steps)
