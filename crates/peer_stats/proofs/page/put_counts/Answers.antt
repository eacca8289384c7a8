use Rattle.peer_stats.proofs.JoinLemmas.{joined}
use Rattle.peer_stats.proofs.page.put_counts.Goals as goal

pub returns : goal.returns
returns c = joined c.args.page.now.items _ _ (joined c.args.page.now.items _ _ (joined c.args.page.now.items _ _ (joined c.args.page.now.items _ _ (joined c.args.page.now.items _ _ (joined c.args.page.now.items _ _ (joined c.args.page.now.items _ _ c.in_ok-put_loops.ensures c.in_ok-put_fillers.ensures) c.in_ok-put_connections.ensures) c.in_ok-put_traffic.ensures) c.in_ok-put_closes.ensures) c.in_ok-put_replies.ensures) c.in_ok-put_failures.ensures) c.in_ok-put_counter.ensures
