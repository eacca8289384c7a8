use Rattle.peer_stats.proofs.JoinLemmas.{joined}
use Rattle.peer_stats.proofs.services.put_services.Goals as goal

pub returns : goal.returns
returns c = joined c.args.page.now.items _ _ (joined c.args.page.now.items _ _ (joined c.args.page.now.items _ _ (joined c.args.page.now.items _ _ (joined c.args.page.now.items _ _ (joined c.args.page.now.items _ _ c.in_ok-put_held_connections.ensures c.in_ok-put_held_keys.ensures) c.in_ok-put_held_addresses.ensures) c.in_ok-put_connects.ensures) c.in_ok-put_statuses.ensures) c.in_ok-put_second_requests.ensures) c.in_ok-put_lookups.ensures
