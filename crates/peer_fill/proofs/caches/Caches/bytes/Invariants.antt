use Rattle.std.specs.Prelude.{◌≡◌, ◌-◌, ◌^◌, min, take, sum_by}
use Rattle.peer_source.specs.Caches.{bytes_in}
use Rattle.peer_fill.proofs.caches.Caches.bytes.Given as goal

abbrev pub invariant-loop-cache : goal.invariant-loop-cache
invariant-loop-cache g l = l.bytes ≡ min (sum_by (λ c. bytes_in c.each c.entries) (take l.cache-index l.self.each.items)) (2 ^ 64 - 1)
