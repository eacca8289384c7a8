use Rattle.std.proofs.lemmas.Grind.{common_steps}
use Rattle.std.proofs.Common.{arith, rules}
use Rattle.peer_outbox.proofs.outbox.Outbox.put_value.Goals as goal

pub lend-requires-clause-parts : goal.lend-requires-clause-parts
lend-requires-clause-parts c = grind (arith, common_steps)

pub lend-requires-clause-value : goal.lend-requires-clause-value
lend-requires-clause-value c = search rules
