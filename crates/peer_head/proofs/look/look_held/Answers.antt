use Rattle.std.proofs.Common.{rules}
use Rattle.peer_head.proofs.look.look_held.Goals as goal

pub look_at-requires : goal.look_at-requires
look_at-requires c = search rules
