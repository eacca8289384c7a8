use Rattle.std.proofs.Common.{rules}
use Rattle.peer_reply.proofs.reply.Reply.of_fill.Goals as goal

pub returns : goal.returns
returns g c = search rules
