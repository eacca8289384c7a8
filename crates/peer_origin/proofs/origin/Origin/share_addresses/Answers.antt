use Rattle.std.proofs.Common.{rules}
use Rattle.peer_origin.proofs.origin.Origin.share_addresses.Goals as goal

pub returns-in_ok-self-clause-own : goal.returns-in_ok-self-clause-own
returns-in_ok-self-clause-own c = search rules

pub returns-else-eq-clause-shared : goal.returns-else-eq-clause-shared
returns-else-eq-clause-shared c = search rules

pub returns-in_ok-self-clause-asked : goal.returns-in_ok-self-clause-asked
returns-in_ok-self-clause-asked c = search rules
