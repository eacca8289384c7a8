use Rattle.std.proofs.lemmas.Grind.{common_steps}
use Rattle.std.proofs.Common.{arith, subst, sym}
use Rattle.peer_reply.specs.Responses.{IsCutShort}
use Rattle.peer_reply.proofs.VarintLemmas.{nothing, cut_nothing}
use Rattle.peer_reply.proofs.response.read_response.Goals as goal

pub returns-in-empty : goal.returns-in-empty
returns-in-empty c = subst IsCutShort (sym (nothing c.args.input.now c.in-empty.len_below)) cut_nothing

pub returns-in_default : goal.returns-in_default
returns-in_default c = grind (arith, common_steps)
