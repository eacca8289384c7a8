use Rattle.std.proofs.lemmas.Grind.{common_steps}
use Rattle.std.proofs.Common.{arith, rules}
use Rattle.peer_outbox.proofs.outbox.Outbox.drop_first.Goals as goal

pub invariant_of-self-then-self-end : goal.invariant_of-self-then-self-end
invariant_of-self-then-self-end c = grind (arith, common_steps)

pub returns-then-self-end-clause-bytes : goal.returns-then-self-end-clause-bytes
returns-then-self-end-clause-bytes c = grind (arith, common_steps)

pub returns-then-self-end-clause-next : goal.returns-then-self-end-clause-next
returns-then-self-end-clause-next c = search rules
