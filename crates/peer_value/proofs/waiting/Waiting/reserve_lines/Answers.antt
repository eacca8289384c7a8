use Rattle.std.proofs.Common.{rules}
use Rattle.peer_value.proofs.waiting.Waiting.reserve_lines.Goals as goal

pub returns-in_err-push : goal.returns-in_err-push
returns-in_err-push g c = search rules
