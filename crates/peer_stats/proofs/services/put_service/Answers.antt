use Rattle.peer_stats.specs.Families.{number_text}
use Rattle.peer_stats.proofs.JoinLemmas.{joined, joined_by}
use Rattle.peer_stats.proofs.services.put_service.Goals as goal

pub returns : goal.returns
returns c = joined_by c.args.page.now.items _ number_text (joined c.args.page.now.items _ _ (joined c.args.page.now.items _ _ (joined c.args.page.now.items _ _ (joined c.args.page.now.items _ _ (joined c.args.page.now.items _ _ c.in_ok-extend_from_slice.ensures.items c.in_ok-extend_from_slice-2.ensures.items) c.in_ok-put_label.ensures) c.in_ok-extend_from_slice-3.ensures.items) c.in_ok-extend_from_slice-4.ensures.items) c.in_ok-extend_from_slice-5.ensures.items) c.in_ok-put_number.ensures c.of.ensures
