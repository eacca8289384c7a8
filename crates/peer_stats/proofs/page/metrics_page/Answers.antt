use Rattle.peer_stats.proofs.JoinLemmas.{joined, from_nothing}
use Rattle.peer_stats.proofs.page.metrics_page.Goals as goal

pub returns : goal.returns
returns c = from_nothing c.new-page.result.items _ c.new-page.ensures.items (joined c.new-page.result.items _ _ (joined c.new-page.result.items _ _ (joined c.new-page.result.items _ _ (joined c.new-page.result.items _ _ (joined c.new-page.result.items _ _ (joined c.new-page.result.items _ _ (joined c.new-page.result.items _ _ c.in_ok-put_build.ensures c.in_ok-put_counts.ensures) c.in_ok-put_groups.ensures) c.in_ok-put_latencies.ensures) c.in_ok-put_services.ensures) c.in_ok-put_bounds.ensures) c.in_ok-put_held.ensures) c.in_ok-put_some_process.ensures)
