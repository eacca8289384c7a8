use Rattle.std.proofs.Common.{rules}
use Rattle.peer_value.proofs.endpoints.Endpoints.cover_all.Goals as goal

pub returns : goal.returns
returns c = search rules
