use Rattle.std.proofs.Common.{ℕ, ◌<◌, ◌≤◌, All, arith, get_or, subst, take, List}
use Rattle.std.proofs.lemmas.List.{take_all}
use Rattle.std.proofs.lemmas.List.Elements.{All-more, All-weaker}
use Rattle.peer_fill.proofs.shards.count_of.Goals as goal

pub loop-last-preserved : goal.loop-last-preserved
loop-last-preserved c =
    let xs = c.args.last_places.now in
    let i = c.loop-last.last-index in
    let old = c.loop-last.count in
    let new = c.max-count.result in
    let grows : old ≤ new = omega arith in
    let here : get_or xs i 0 < new = omega arith in
    let before = c.loop-last.invariant.within in
    record {
      some = omega arith;
      within = All-more (λ (x : ℕ). x < new) xs i 0 (omega arith)
          (All-weaker (λ (x : ℕ). x < old) (λ (x : ℕ). x < new) (λ (x : ℕ) (h : x < old). omega (arith, h, grows)) (take i xs) before)
          here;
    }

pub returns-clause-within : goal.returns-clause-within
returns-clause-within c =
    subst (λ (xs : List ℕ). All (λ (x : ℕ). x < c.loop-last.count) xs)
    (take_all c.loop-last.last-index c.args.last_places.now (omega arith)) c.loop-last.invariant.within
