use Rattle.std.proofs.Common.{rules}
use Rattle.peer_flight.proofs.table.Table.want.Goals as goal

pub returns-in-Some-clause-gives : goal.returns-in-Some-clause-gives
returns-in-Some-clause-gives g c = search rules

pub returns-in-Some-clause-stands : goal.returns-in-Some-clause-stands
returns-in-Some-clause-stands g c = search rules

pub returns-in-Some-clause-others : goal.returns-in-Some-clause-others
returns-in-Some-clause-others g c = search rules

pub returns-in_err-flight-clause-worn : goal.returns-in_err-flight-clause-worn
returns-in_err-flight-clause-worn g c = search rules

pub returns-clause-gives : goal.returns-clause-gives
returns-clause-gives g c = search rules
