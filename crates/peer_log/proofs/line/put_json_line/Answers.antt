use Rattle.peer_log.proofs.JoinLemmas.{joined}
use Rattle.peer_log.proofs.line.put_json_line.Goals as goal

pub returns : goal.returns
returns c = joined c.args.line.now.items _ _ (joined c.args.line.now.items _ _ (joined c.args.line.now.items _ _ (joined c.args.line.now.items _ _ (joined c.args.line.now.items _ _ (joined c.args.line.now.items _ _ (joined c.args.line.now.items _ _ (joined c.args.line.now.items _ _ c.in_ok-extend_from_slice.ensures.items c.in_ok-extend_from_slice-2.ensures.items) c.in_ok-extend_from_slice-3.ensures.items) c.in_ok-put_level.ensures) c.in_ok-extend_from_slice-4.ensures.items) c.in_ok-put_escaped.ensures) c.in_ok-extend_from_slice-5.ensures.items) c.in_ok-put_json_fields.ensures) c.in_ok-extend_from_slice-6.ensures.items
