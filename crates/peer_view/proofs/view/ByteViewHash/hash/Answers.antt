use Rattle.std.proofs.Common.{rules}
use Rattle.peer_view.proofs.view.ByteViewHash.hash.Goals as goal

pub returns : goal.returns
returns g c = search rules
