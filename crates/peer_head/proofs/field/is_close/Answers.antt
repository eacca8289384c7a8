use Rattle.std.proofs.Common.{rules}
use Rattle.peer_head.proofs.field.is_close.Goals as goal

pub returns : goal.returns
returns c = search rules
