use Rattle.std.proofs.Common.{rules}
use Rattle.peer_view.proofs.view.ByteView.to_text.Goals as goal

pub returns-in-Err-clause-not_utf8 : goal.returns-in-Err-clause-not_utf8
returns-in-Err-clause-not_utf8 c = search rules
