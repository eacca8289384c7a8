use Rattle.std.proofs.Common.{rules}
use Rattle.peer_source.proofs.demo.DemoSourceSource.get.Goals as goal

pub returns-in-1 : goal.returns-in-1
returns-in-1 c = search rules
