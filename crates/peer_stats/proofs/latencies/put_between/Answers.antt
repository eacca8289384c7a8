use Rattle.peer_stats.proofs.JoinLemmas.{joined}
use Rattle.peer_stats.proofs.latencies.put_between.Goals as goal

pub returns : goal.returns
returns c = joined c.args.page.now.items _ _ (joined c.args.page.now.items _ _ c.in_ok-extend_from_slice.ensures.items c.in_ok-put_label.ensures) c.in_ok-extend_from_slice-2.ensures.items
