use Rattle.std.proofs.Common.{rules}
use Rattle.peer_http.proofs.fault.content_fault.Goals as goal

pub returns-in-Lost : goal.returns-in-Lost
returns-in-Lost c = search rules
