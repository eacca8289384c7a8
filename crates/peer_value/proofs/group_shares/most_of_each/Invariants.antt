use Rattle.std.specs.Prelude.{◌≡◌, map, take}
use Rattle.peer_value.specs.GroupShares.{most_for}
use Rattle.peer_value.proofs.group_shares.most_of_each.Given as goal

abbrev pub invariant-loop-endpoint : goal.invariant-loop-endpoint
invariant-loop-endpoint l = l.most.items ≡ map most_for (take l.endpoint-index l.endpoints)
