use Rattle.std.proofs.Common.{rules}
use Rattle.peer_view.proofs.view.ByteView.read_at.Goals as goal

pub returns-clause-end : goal.returns-clause-end
returns-clause-end c = search rules
