use Rattle.std.proofs.Common.{codes}
use Rattle.peer_stats.specs.Families.{number_text}
use Rattle.peer_stats.specs.Latencies.{bucket_text}
use Rattle.peer_stats.proofs.JoinLemmas.{joined, joined_by}
use Rattle.peer_stats.proofs.latencies.put_times.Goals as goal

pub returns : goal.returns
returns c = joined_by c.args.page.now.items _ (number_text) (joined c.args.page.now.items _ _ (joined c.args.page.now.items _ _ (joined c.args.page.now.items _ _ (joined c.args.page.now.items _ _ (joined c.args.page.now.items _ _ (joined c.args.page.now.items _ _ (joined c.args.page.now.items _ _ (joined_by c.args.page.now.items _ (λ n. bucket_text c.args.name.now c.args.of c.args.value.now (codes "+Inf") n) (c.in_ok-put_bound_buckets.ensures) c.in_ok-put_bucket.ensures c.count_in_first-count.ensures) c.in_ok-extend_from_slice.ensures.items) c.in_ok-extend_from_slice-2.ensures.items) c.in_ok-put_only_label.ensures) c.in_ok-put_seconds.ensures) c.in_ok-extend_from_slice-3.ensures.items) c.in_ok-extend_from_slice-4.ensures.items) c.in_ok-put_only_label-2.ensures) c.in_ok-put_number.ensures c.count_in_first-count.ensures
