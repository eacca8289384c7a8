-- The caches that plans give their groups.
use Rattle.std.proofs.Common.{◌≡◌, ℕ, List, refl, ap, sym, ◌∙◌}
use Rattle.peer_source.specs.Caches.{Cache}
use Rattle.peer_fill.specs.Caches.{planned_cache}
use Rattle.peer_fill.specs.Plans.{group_plan}
use Rattle.peer_fill.specs.declared.plan.CachePlan.{CachePlan}
use Rattle.peer_fill.specs.declared.plan.CachePlan.TheVariants.{Single, Sharded}

-- it is the cache of this group
pub planned_group : (p : CachePlan) (n : ℕ) → (planned_cache p n).group ≡ n
planned_group (Single limit) n = refl
planned_group (Sharded shards bounds) n = refl

-- a cache as the plan of a group says is as the plan of its own group says
pub planned_own : (plan : CachePlan) (own : List CachePlan) (p : CachePlan) (n : ℕ) (c : Cache) → p ≡ group_plan plan own n
    → c ≡ planned_cache p n → c ≡ planned_cache (group_plan plan own c.group) c.group
planned_own plan own p n c same is =
    let here : c.group ≡ n = ap (λ (d : Cache). d.group) is ∙ planned_group p n in
    is ∙ ap (λ (q : CachePlan). planned_cache q n) same ∙ ap (λ (m : ℕ). planned_cache (group_plan plan own m) m) (sym here)
