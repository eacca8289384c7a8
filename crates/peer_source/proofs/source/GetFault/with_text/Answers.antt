use Rattle.std.proofs.Common.{rules}
use Rattle.peer_source.proofs.source.GetFault.with_text.Goals as goal

pub returns-in-Ok : goal.returns-in-Ok
returns-in-Ok c = search rules
