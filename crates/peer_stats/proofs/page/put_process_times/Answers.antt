use Rattle.peer_stats.proofs.JoinLemmas.{joined}
use Rattle.peer_stats.proofs.page.put_process_times.Goals as goal

pub returns : goal.returns
returns c = joined c.args.page.now.items _ _ (joined c.args.page.now.items _ _ (joined c.args.page.now.items _ _ (joined c.args.page.now.items _ _ (joined c.args.page.now.items _ _ c.in_ok-put_family.ensures c.in_ok-extend_from_slice.ensures.items) c.in_ok-put_hundredths.ensures) c.in_ok-put_family-2.ensures) c.in_ok-extend_from_slice-2.ensures.items) c.in_ok-put_hundredths-2.ensures
