use Rattle.std.proofs.Common.{rules}
use Rattle.peer_flight.proofs.claim.Claim.note.Goals as goal

pub returns-in-Pending-clause-cell : goal.returns-in-Pending-clause-cell
returns-in-Pending-clause-cell g c = search rules
