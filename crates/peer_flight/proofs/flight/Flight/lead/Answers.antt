use Rattle.std.proofs.Common.{rules}
use Rattle.peer_flight.proofs.flight.Flight.lead.Goals as goal

pub returns-clause-right : goal.returns-clause-right
returns-clause-right g c = search rules
