use Rattle.peer_stats.proofs.JoinLemmas.{joined}
use Rattle.peer_stats.proofs.page.put_loops.Goals as goal

pub returns : goal.returns
returns c = joined c.args.page.now.items _ _ (joined c.args.page.now.items _ _ (joined c.args.page.now.items _ _ (joined c.args.page.now.items _ _ c.in_ok-put_counter.ensures c.in_ok-put_counter-2.ensures) c.in_ok-put_counter-3.ensures) c.in_ok-put_counter-4.ensures) c.in_ok-put_counter-5.ensures
