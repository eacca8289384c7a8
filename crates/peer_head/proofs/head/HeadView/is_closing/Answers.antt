use Rattle.std.proofs.Common.{rules}
use Rattle.peer_head.proofs.head.HeadView.is_closing.Goals as goal

pub returns : goal.returns
returns c = search rules
