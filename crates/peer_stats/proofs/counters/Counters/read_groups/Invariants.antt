use Rattle.std.proofs.Common.{◌≡◌, map, take}
use Rattle.peer_stats.proofs.counters.Counters.read_groups.Given as goal

abbrev pub invariant-loop-number : goal.invariant-loop-number
invariant-loop-number l = (map (λ g. g.name.now) l.groups.items ≡ map (λ s. s.name.items) (take l.number l.served))
    × (map (λ g. g.limits) l.groups.items ≡ map (λ s. s.limits) (take l.number l.served))
