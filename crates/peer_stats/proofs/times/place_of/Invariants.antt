use Rattle.std.specs.Prelude.{◌<◌}
use Rattle.std.specs.List.{AllWithin}
use Rattle.peer_stats.proofs.times.place_of.Given as goal

abbrev pub invariant-loop-index : goal.invariant-loop-index
invariant-loop-index l = AllWithin (λ b. b.micros < l.micros) l.bounds 0 l.index
