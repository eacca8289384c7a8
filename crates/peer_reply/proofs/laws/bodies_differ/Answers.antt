use Rattle.peer_reply.proofs.BodyLemmas.{bodies_differ_law}
use Rattle.peer_reply.proofs.laws.bodies_differ.Goals as goal

pub returns : goal.returns
returns c = bodies_differ_law
