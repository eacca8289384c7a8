use Rattle.peer_reply.proofs.BodyLemmas.{has_one_fault_law}
use Rattle.peer_reply.proofs.laws.has_one_fault.Goals as goal

pub returns : goal.returns
returns c = has_one_fault_law
