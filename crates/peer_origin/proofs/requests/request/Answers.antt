use Rattle.std.proofs.Common.{rules}
use Rattle.peer_origin.proofs.requests.request.Goals as goal

pub returns : goal.returns
returns c = search rules
