use Rattle.std.proofs.Common.{rules}
use Rattle.peer_head.specs.Looks.{no_head}
use Rattle.peer_head.proofs.look.look_at_block.Goals as goal

pub returns-in-None : goal.returns-in-None
returns-in-None c = λ text rest begins. no_head c.args.block.now rest begins c.in-None.ensures

pub parse_head-requires : goal.parse_head-requires
parse_head-requires c = search rules
