use Rattle.std.proofs.Common.{rules}
use Rattle.peer_flight.proofs.flight.Flight.compare.Goals as goal

pub returns-clause-agree : goal.returns-clause-agree
returns-clause-agree g c = search rules
