use Rattle.std.proofs.Common.{rules}
use Rattle.peer_source.proofs.entries.room_beside.Goals as goal

pub returns-clause-room : goal.returns-clause-room
returns-clause-room c = search rules
