use Rattle.peer_reply.proofs.BodyLemmas.{body_has_no_fault_law}
use Rattle.peer_reply.proofs.laws.body_has_no_fault.Goals as goal

pub returns : goal.returns
returns c = body_has_no_fault_law
