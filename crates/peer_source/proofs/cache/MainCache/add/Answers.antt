use Rattle.std.proofs.Common.{rules}
use Rattle.peer_source.proofs.cache.MainCache.add.Goals as goal

pub put-requires-clause-on : goal.put-requires-clause-on
put-requires-clause-on g c = search rules

pub returns-clause-nothing : goal.returns-clause-nothing
returns-clause-nothing g c = search rules

pub put-requires-clause-answer : goal.put-requires-clause-answer
put-requires-clause-answer g c = search rules
