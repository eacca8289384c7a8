use Rattle.std.proofs.Common.{rules}
use Rattle.peer_view.proofs.trunc_sink.TruncSink.filled.Goals as goal

pub returns : goal.returns
returns c = search rules
