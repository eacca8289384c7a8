use Rattle.std.proofs.Common.{rules}
use Rattle.peer_head.proofs.summary.Hosts.with_one.Goals as goal

pub returns-in-Single : goal.returns-in-Single
returns-in-Single c = search rules
