use Rattle.peer_stats.proofs.JoinLemmas.{joined}
use Rattle.peer_stats.proofs.latencies.put_latencies.Goals as goal

pub returns : goal.returns
returns c = joined c.args.page.now.items _ _ (joined c.args.page.now.items _ _ (joined c.args.page.now.items _ _ c.in_ok-put_fetches.ensures c.in_ok-put_queue.ensures) c.in_ok-put_waits.ensures) c.in_ok-put_turns.ensures
