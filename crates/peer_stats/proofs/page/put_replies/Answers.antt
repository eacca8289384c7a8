use Rattle.peer_stats.proofs.JoinLemmas.{joined}
use Rattle.peer_stats.proofs.page.put_replies.Goals as goal

pub returns : goal.returns
returns c = joined c.args.page.now.items _ _ (joined c.args.page.now.items _ _ c.in_ok-put_family.ensures c.in_ok-put_rows.ensures) c.in_ok-put_counter.ensures
