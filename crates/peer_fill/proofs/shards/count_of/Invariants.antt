use Rattle.std.specs.Prelude.{◌≤◌, ◌<◌, All, take}
use Rattle.peer_fill.proofs.shards.count_of.Given as goal

abbrev pub invariant-loop-last : goal.invariant-loop-last
invariant-loop-last l = record {
  some : 1 ≤ l.count;
  within : All (λ last. last < l.count) (take l.last-index l.last_places);
}
