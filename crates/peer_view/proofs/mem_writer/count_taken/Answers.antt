use Rattle.std.proofs.Common.{rules}
use Rattle.peer_view.proofs.mem_writer.count_taken.Goals as goal

pub returns-in-Some : goal.returns-in-Some
returns-in-Some c = search rules
