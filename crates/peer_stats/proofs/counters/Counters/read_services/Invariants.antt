use Rattle.std.proofs.Common.{◌≡◌, map, take}
use Rattle.peer_stats.proofs.counters.Counters.read_services.Given as goal

abbrev pub invariant-loop-service : goal.invariant-loop-service
invariant-loop-service l = map (λ s. s.name.now) l.services.items ≡ map (λ s. s.name.items) (take l.service-index l.served)
