use Rattle.std.proofs.Common.{rules}
use Rattle.peer_fetch.proofs.thread.work_on.Goals as goal

pub returns-then-not-took-clause-done : goal.returns-then-not-took-clause-done
returns-then-not-took-clause-done g c = search rules
