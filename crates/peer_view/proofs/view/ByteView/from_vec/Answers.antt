use Rattle.std.proofs.Common.{rules}
use Rattle.peer_view.proofs.view.ByteView.from_vec.Goals as goal

pub returns : goal.returns
returns c = search rules
