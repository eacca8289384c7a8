use Rattle.peer_stats.proofs.JoinLemmas.{joined}
use Rattle.peer_stats.proofs.page.put_held.Goals as goal

pub returns : goal.returns
returns c = joined c.args.page.now.items _ _ (joined c.args.page.now.items _ _ (joined c.args.page.now.items _ _ (joined c.args.page.now.items _ _ c.in_ok-put_queued.ensures c.in_ok-put_gauge.ensures) c.in_ok-put_gauge-2.ensures) c.in_ok-put_ready.ensures) c.in_ok-put_gauge-3.ensures
