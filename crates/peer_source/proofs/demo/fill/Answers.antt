use Rattle.std.proofs.Common.{rules}
use Rattle.peer_source.proofs.demo.fill.Goals as goal

pub returns-in-Some : goal.returns-in-Some
returns-in-Some c = search rules
