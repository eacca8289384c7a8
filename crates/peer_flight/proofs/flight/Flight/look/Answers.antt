use Rattle.std.proofs.Common.{rules}
use Rattle.peer_flight.proofs.flight.Flight.look.Goals as goal

pub returns-clause-value : goal.returns-clause-value
returns-clause-value g c = search rules
