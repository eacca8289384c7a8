use Rattle.std.proofs.Common.{rules}
use Rattle.peer_fetch.proofs.link.Link.note.Goals as goal

pub returns-clause-under : goal.returns-clause-under
returns-clause-under g c = search rules
