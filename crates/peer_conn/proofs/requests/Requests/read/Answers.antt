use Rattle.std.proofs.Common.{rules}
use Rattle.peer_conn.proofs.requests.Requests.read.Goals as goal

pub read-requires : goal.read-requires
read-requires g c = search rules

pub invariant_of-self : goal.invariant_of-self
invariant_of-self g c = search rules

pub returns-then-self-eq0-clause-reads : goal.returns-then-self-eq0-clause-reads
returns-then-self-eq0-clause-reads g c = search rules

pub returns-in-Err-clause-reads : goal.returns-in-Err-clause-reads
returns-in-Err-clause-reads g c = search rules
