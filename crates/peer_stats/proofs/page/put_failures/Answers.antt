use Rattle.peer_stats.proofs.JoinLemmas.{joined}
use Rattle.peer_stats.proofs.page.put_failures.Goals as goal

pub returns : goal.returns
returns c = joined c.args.page.now.items _ _ c.in_ok-put_family.ensures c.in_ok-put_rows.ensures
