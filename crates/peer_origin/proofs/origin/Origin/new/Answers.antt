use Rattle.std.proofs.Common.{rules}
use Rattle.peer_origin.proofs.origin.Origin.new.Goals as goal

pub returns-clause-endpoint : goal.returns-clause-endpoint
returns-clause-endpoint g c = search rules

pub returns-clause-name : goal.returns-clause-name
returns-clause-name g c = search rules
