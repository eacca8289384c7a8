use Rattle.std.proofs.Common.{rules}
use Rattle.peer_flight.proofs.table.Table.share_at.Goals as goal

pub returns : goal.returns
returns g c = search rules
