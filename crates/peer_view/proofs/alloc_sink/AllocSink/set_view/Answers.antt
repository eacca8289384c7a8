use Rattle.std.proofs.Common.{rules}
use Rattle.peer_view.proofs.alloc_sink.AllocSink.set_view.Goals as goal

pub returns-in_err-self-inside-clause-err : goal.returns-in_err-self-inside-clause-err
returns-in_err-self-inside-clause-err c = search rules
