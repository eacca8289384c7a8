use Rattle.std.specs.Prelude.{◌≡◌, ◌-◌, ◌^◌, length, min, sum, take}
use Rattle.peer_stats.proofs.times.count_in_first.Given as goal

abbrev pub invariant-loop-place : goal.invariant-loop-place
invariant-loop-place l = l.count ≡ min (sum (take l.place-index (take (min l.n (length l.places)) l.places))) (2 ^ 64 - 1)
