use Rattle.peer_stats.proofs.JoinLemmas.{joined}
use Rattle.peer_stats.proofs.groups.put_groups.Goals as goal

pub returns : goal.returns
returns c = joined c.args.page.now.items _ _ (joined c.args.page.now.items _ _ (joined c.args.page.now.items _ _ (joined c.args.page.now.items _ _ (joined c.args.page.now.items _ _ c.in_ok-put_asks.ensures c.in_ok-put_calls.ensures) c.in_ok-put_failures.ensures) c.in_ok-put_kept.ensures) c.in_ok-put_limits.ensures) c.in_ok-put_lost.ensures
