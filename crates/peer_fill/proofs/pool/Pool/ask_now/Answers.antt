use Rattle.std.proofs.Common.{rules}
use Rattle.peer_fill.proofs.pool.Pool.ask_now.Goals as goal

pub returns-in-Some-clause-not_now : goal.returns-in-Some-clause-not_now
returns-in-Some-clause-not_now g c = tt

pub join_or_lead-requires-clause-none : goal.join_or_lead-requires-clause-none
join_or_lead-requires-clause-none g c = search rules
