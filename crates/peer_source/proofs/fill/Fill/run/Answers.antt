use Rattle.std.proofs.Common.{rules}
use Rattle.peer_source.proofs.fill.Fill.run.Goals as goal

pub returns-clause-answer : goal.returns-clause-answer
returns-clause-answer g c = search rules
