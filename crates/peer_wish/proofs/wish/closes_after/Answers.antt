use Rattle.std.proofs.Common.{rules}
use Rattle.peer_wish.proofs.wish.closes_after.Goals as goal

pub returns-else-closing : goal.returns-else-closing
returns-else-closing c = search rules
