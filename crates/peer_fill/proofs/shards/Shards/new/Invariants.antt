use Rattle.std.specs.Prelude.{◌≡◌, length}
use Rattle.peer_fill.proofs.shards.Shards.new.Given as goal

abbrev pub invariant-loop-shard : goal.invariant-loop-shard
invariant-loop-shard g l = length l.each.items ≡ l._shard
