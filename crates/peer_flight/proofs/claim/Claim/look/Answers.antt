use Rattle.std.proofs.Common.{rules}
use Rattle.peer_flight.proofs.claim.Claim.look.Goals as goal

pub returns-in-Ready-clause-value : goal.returns-in-Ready-clause-value
returns-in-Ready-clause-value g c = search rules
