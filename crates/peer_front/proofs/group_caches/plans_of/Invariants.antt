use Rattle.std.specs.Prelude.{take}
use Rattle.std.specs.List.{AllZip}
use Rattle.peer_fill.specs.Plans.{IsPlanFor}
use Rattle.peer_front.proofs.group_caches.plans_of.Given as goal

abbrev pub invariant-loop-group : goal.invariant-loop-group
invariant-loop-group l = AllZip (λ group plan. IsPlanFor group.limits.bytes group.limits.entries plan)
    (take l.group-index l.groups) l.plans.items
