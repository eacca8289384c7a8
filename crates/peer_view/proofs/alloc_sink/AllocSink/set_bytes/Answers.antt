use Rattle.std.proofs.Common.{rules}
use Rattle.peer_view.proofs.alloc_sink.AllocSink.set_bytes.Goals as goal

pub returns-clause-ok : goal.returns-clause-ok
returns-clause-ok c = search rules
