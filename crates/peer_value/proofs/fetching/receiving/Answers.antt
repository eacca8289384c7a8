use Rattle.std.proofs.Common.{rules}
use Rattle.peer_value.proofs.fetching.receiving.Goals as goal

pub returns-clause-most : goal.returns-clause-most
returns-clause-most c = search rules
