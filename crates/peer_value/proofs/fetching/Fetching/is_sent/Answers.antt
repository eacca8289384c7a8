use Rattle.std.proofs.Common.{rules}
use Rattle.peer_value.proofs.fetching.Fetching.is_sent.Goals as goal

pub returns : goal.returns
returns c = search rules
