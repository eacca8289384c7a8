use Rattle.std.proofs.Common.{subst, sym}
use Rattle.peer_reply.specs.Lengths.{IsCutLength}
use Rattle.peer_reply.proofs.VarintLemmas.{nothing, cut_none}
use Rattle.peer_reply.proofs.response.read_length.Goals as goal

pub returns-in-empty : goal.returns-in-empty
returns-in-empty c = subst IsCutLength (sym (nothing c.args.bytes.now c.in-empty.len_below)) cut_none
