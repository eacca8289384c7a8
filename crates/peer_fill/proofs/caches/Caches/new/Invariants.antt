use Rattle.std.specs.Prelude.{◌≡◌, All, length}
use Rattle.peer_fill.specs.Caches.{EachInPlace, planned_cache}
use Rattle.peer_fill.specs.Plans.{group_plan}
use Rattle.peer_fill.proofs.caches.Caches.new.Given as goal

abbrev pub invariant-loop-number : goal.invariant-loop-number
invariant-loop-number g l = record {
  len : length l.each.items ≡ l.number;
  in_place : EachInPlace l.each.items;
  planned : All (λ c. c ≡ planned_cache (group_plan l.caching.plan l.caching.own.now c.group) c.group) l.each.items;
}
