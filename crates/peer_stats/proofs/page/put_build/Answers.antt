use Rattle.peer_stats.proofs.JoinLemmas.{joined}
use Rattle.peer_stats.proofs.page.put_build.Goals as goal

pub returns : goal.returns
returns c = joined c.args.page.now.items _ _ (joined c.args.page.now.items _ _ (joined c.args.page.now.items _ _ (joined c.args.page.now.items _ _ (joined c.args.page.now.items _ _ c.in_ok-put_family.ensures c.in_ok-extend_from_slice.ensures.items) c.in_ok-put_label.ensures) c.in_ok-extend_from_slice-2.ensures.items) c.in_ok-put_label-2.ensures) c.in_ok-extend_from_slice-3.ensures.items
