use Rattle.peer_stats.proofs.JoinLemmas.{joined}
use Rattle.peer_stats.proofs.latencies.put_bucket.Goals as goal

pub returns : goal.returns
returns c = joined c.args.page.now.items _ _ (joined c.args.page.now.items _ _ (joined c.args.page.now.items _ _ (joined c.args.page.now.items _ _ (joined c.args.page.now.items _ _ (joined c.args.page.now.items _ _ c.in_ok-extend_from_slice.ensures.items c.in_ok-extend_from_slice-2.ensures.items) c.in_ok-put_first_label.ensures) c.in_ok-extend_from_slice-3.ensures.items) c.in_ok-extend_from_slice-4.ensures.items) c.in_ok-extend_from_slice-5.ensures.items) c.in_ok-put_number.ensures
