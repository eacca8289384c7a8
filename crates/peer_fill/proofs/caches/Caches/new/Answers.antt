use Rattle.std.proofs.Common.{◌≡◌, length, ap, sym, ◌∙◌, arith}
use Rattle.std.proofs.lemmas.List.{length_push}
use Rattle.std.proofs.lemmas.List.Elements.{All-push}
use Rattle.peer_source.specs.Caches.{Cache}
use Rattle.peer_fill.specs.Caches.{planned_cache}
use Rattle.peer_fill.specs.Plans.{group_plan}
use Rattle.peer_fill.proofs.Placing.{in_place_push}
use Rattle.peer_fill.proofs.Planning.{planned_group, planned_own}
use Rattle.peer_fill.proofs.caches.Caches.new.Goals as goal

pub loop-number-preserved : goal.loop-number-preserved
loop-number-preserved g c =
    let items = c.in_ok-push.ensures.items in
    let i = c.loop-number.invariant in
    let is = c.in_ok-cache_of.ensures in
    let p = c.plan_of-plan.result in
    let n = c.loop-number.number in
    let plan = c.args.caching.plan in
    let own = c.args.caching.own.now in
    record {
      len = omega (arith, ap length items, length_push c.loop-number.each.items c.in_ok-cache_of.field-0, i.len);
      planned = rw items
          (All-push (λ (m : Cache). m ≡ planned_cache (group_plan plan own m.group) m.group) _ _ i.planned
          (planned_own plan own p n _ c.plan_of-plan.ensures is));
      in_place = rw items (in_place_push _ _ i.in_place (ap (λ (x : Cache). x.group) is ∙ planned_group p n ∙ sym i.len));
    }
