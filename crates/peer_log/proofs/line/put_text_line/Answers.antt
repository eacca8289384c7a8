use Rattle.peer_log.proofs.JoinLemmas.{joined}
use Rattle.peer_log.proofs.line.put_text_line.Goals as goal

pub returns : goal.returns
returns c = joined c.args.line.now.items _ _ (joined c.args.line.now.items _ _ (joined c.args.line.now.items _ _ (joined c.args.line.now.items _ _ (joined c.args.line.now.items _ _ (joined c.args.line.now.items _ _ (joined c.args.line.now.items _ _ c.in_ok-extend_from_slice.ensures.items c.in_ok-extend_from_slice-2.ensures.items) c.in_ok-put_level.ensures) c.in_ok-extend_from_slice-3.ensures.items) c.in_ok-put_escaped.ensures) c.in_ok-put_colon.ensures) c.in_ok-put_fields.ensures) c.in_ok-extend_from_slice-4.ensures.items
