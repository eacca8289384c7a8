use Rattle.std.proofs.Common.{rules}
use Rattle.peer_origin.proofs.source.OriginSourceSource.group_count.Goals as goal

pub returns : goal.returns
returns g c = search rules
