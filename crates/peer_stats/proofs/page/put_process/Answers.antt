use Rattle.peer_stats.proofs.JoinLemmas.{joined}
use Rattle.peer_stats.proofs.page.put_process.Goals as goal

pub returns : goal.returns
returns c = joined c.args.page.now.items _ _ (joined c.args.page.now.items _ _ (joined c.args.page.now.items _ _ (joined c.args.page.now.items _ _ (joined c.args.page.now.items _ _ (joined c.args.page.now.items _ _ (joined c.args.page.now.items _ _ c.in_ok-put_process_times.ensures c.in_ok-put_gauge.ensures) c.in_ok-put_gauge-2.ensures) c.in_ok-put_gauge-3.ensures) c.in_ok-put_gauge-4.ensures) c.in_ok-put_family.ensures) c.in_ok-extend_from_slice.ensures.items) c.in_ok-put_bound.ensures
