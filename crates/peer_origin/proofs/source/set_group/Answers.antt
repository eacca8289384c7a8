use Rattle.std.proofs.Common.{sym}
use Rattle.peer_origin.specs.Origins.{origin_numbered}
use Rattle.peer_origin.proofs.source.set_group.Goals as goal

pub set_at-requires : goal.set_at-requires
set_at-requires c = origin_numbered c.args.origins.now c.args.name.now c.in-Some.group.number (sym c.in-Some.ensures)
