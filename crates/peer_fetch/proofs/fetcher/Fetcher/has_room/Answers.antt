use Rattle.std.proofs.Common.{rules}
use Rattle.peer_fetch.proofs.fetcher.Fetcher.has_room.Goals as goal

pub returns-then-not-is_full : goal.returns-then-not-is_full
returns-then-not-is_full g c = search rules
