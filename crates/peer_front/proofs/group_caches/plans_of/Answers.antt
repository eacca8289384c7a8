use Rattle.std.proofs.Common.{◌<◌, List, [], ◌∷◌, ◌++◌, arith, length, take}
use Rattle.std.proofs.lemmas.List.{take_more}
use Rattle.std.specs.List.{AllZip}
use Rattle.peer_fill.specs.Plans.{IsPlanFor}
use Rattle.peer_fill.specs.declared.plan.CachePlan.{CachePlan}
use Rattle.peer_stats.specs.declared.facts.ServedGroup.{ServedGroup}
use Rattle.peer_front.proofs.group_caches.plans_of.Goals as goal

-- one more of each at the ends
zip_push : {A B : Type 0} (R : A → B → Type 0) (xs : List A) (ys : List B) (x : A) (y : B) → AllZip R xs ys → R x y
    → AllZip R (xs ++ x ∷ []) (ys ++ y ∷ [])
zip_push R [] [] x y all own = (own, tt)
zip_push R [] (z ∷ ys) x y all own = absurd all
zip_push R (w ∷ xs) [] x y all own = absurd all
zip_push R (w ∷ xs) (z ∷ ys) x y all own = (all.0, zip_push R xs ys x y all.1 own)

pub loop-group-preserved : goal.loop-group-preserved
loop-group-preserved c =
    let groups = c.args.groups.now in
    let i = c.loop-group.group-index in
    let group = c.group-item.result in
    let within : i < length groups = omega arith in
    rw (take_more groups i group within, ← c.group-item.is, c.in_ok-push.ensures.items)
    (zip_push (λ (g : ServedGroup) (p : CachePlan). IsPlanFor g.limits.bytes g.limits.entries p)
    (take i groups) c.loop-group.plans.items group c.sharded.result c.loop-group.invariant c.sharded.ensures)
