use Rattle.std.proofs.Common.{rules}
use Rattle.peer_value.proofs.shares.services_of.Goals as goal

pub returns : goal.returns
returns c = search rules
