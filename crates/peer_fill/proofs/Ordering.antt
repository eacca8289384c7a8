-- Each move keeps the rule of the job queue.
use Rattle.std.proofs.Common.{◌≡◌, ◌≢◌, ℕ, ◌+◌, ◌-◌, ◌<◌, ◌≤◌, zero, suc, List, [], ◌∷◌, ◌++◌, All, length, set}
use Rattle.std.proofs.Common.{sym, refl, ap, ◌∙◌, subst, ⊎_elim, arith, append_assoc}
use Rattle.std.proofs.Common.{inl, inr}
use Rattle.std.proofs.lemmas.List.Elements.{All-nil, All-cons}
use Rattle.std.proofs.lemmas.Option.{none-some, slice_get_within}
use Rattle.peer_flight.proofs.ListSteps.{All_at, at_push}
use mathlib.Core.Option.{some, some-ne-none}
use lib.ListN.{get_elem?}
use Rattle.crossbeam_queue.specs.Fifo.{Pushes, Pops, Forks, Merges, Learns}
use Rattle.crossbeam_queue.proofs.Lists.{at_set, at_snoc}
use Rattle.peer_fill.specs.declared.jobs.PassLog.{PassLog}
use Rattle.peer_fill.specs.declared.jobs.Ranked.{Ranked}
use Rattle.peer_fill.specs.Jobs.{pass_log, ranked_at, ranked, Rises, Pushed, Popped, pushed_by, popped_by, weigh, total, ALL}
use Rattle.peer_fill.specs.Jobs.{IdleIsEmpty, FirstInFirstOut, HasInOrder}

weigh-append : (h : Ranked → ℕ) (xs ys : List Ranked) → weigh h (xs ++ ys) ≡ weigh h xs + weigh h ys
weigh-append h [] ys = omega arith
weigh-append h (x ∷ xs) ys = omega (arith, weigh-append h xs ys)

pub weigh-joined : (h : Ranked → ℕ) (all own more : List Ranked) → all ≡ own ++ more → weigh h all ≡ weigh h own + weigh h more
weigh-joined h all own more is = ap (weigh h) is ∙ weigh-append h own more

pub weigh-one : (xs : List Ranked) → weigh (λ _. 1) xs ≡ length xs
weigh-one [] = refl
weigh-one (x ∷ xs) = omega (arith, weigh-one xs)

pub length-ranked : (n : ℕ) (xs : List ℕ) → length (ranked n xs) ≡ length xs
length-ranked n [] = refl
length-ranked n (x ∷ xs) = omega (arith, length-ranked (n + 1) xs)

-- the last of an order
weigh-last : (h : Ranked → ℕ) (n : ℕ) (xs : List ℕ) (x r : ℕ) → r ≡ n + length xs
    → weigh h (ranked n (xs ++ x ∷ [])) ≡ weigh h (ranked n xs) + h (ranked_at r x)
weigh-last h n [] x r e =
    let at : r ≡ n = omega (arith, e) in
    let same : h (ranked_at r x) ≡ h (ranked_at n x) = ap (λ k. h (ranked_at k x)) at in
    omega (arith, same)
weigh-last h n (y ∷ ys) x r e = omega (arith, weigh-last h (n + 1) ys x r (omega (arith, e)))

-- one more is queued
weigh-queued : (h : Ranked → ℕ) (front items : List ℕ) (x : ℕ)
    → weigh h (ranked 0 (front ++ (items ++ x ∷ []))) ≡ weigh h (ranked 0 (front ++ items)) + h (ranked_at (length (front ++ items)) x)
weigh-queued h front items x =
    let one : front ++ (items ++ x ∷ []) ≡ (front ++ items) ++ x ∷ [] = simp append_assoc in
    ap (λ l. weigh h (ranked 0 l)) one ∙ weigh-last h 0 (front ++ items) x (length (front ++ items)) (omega arith)

-- the first that is queued goes to the front
weigh-moved : (h : Ranked → ℕ) (front items : List ℕ) (x : ℕ)
    → weigh h (ranked 0 (front ++ x ∷ items)) ≡ weigh h (ranked 0 ((front ++ x ∷ []) ++ items))
weigh-moved h front items x =
    let one : front ++ x ∷ items ≡ (front ++ x ∷ []) ++ items = simp append_assoc in
    ap (λ l. weigh h (ranked 0 l)) one

-- 0 of each flight whose rank is below r
abbrev late : ℕ → Ranked → ℕ
late r x = (x.rank + 1) - r

none_late : (r n : ℕ) (xs : List ℕ) → n + length xs ≤ r → weigh (late r) (ranked n xs) ≡ 0
none_late r n [] most = refl
none_late r n (x ∷ xs) most =
    let first : late r (ranked_at n x) ≡ 0 = omega (arith, most) in
    omega (arith, first, none_late r (n + 1) xs (omega (arith, most)))

all_below : (r : ℕ) (xs : List Ranked) → weigh (late r) xs ≡ 0 → All (λ x. x.rank < r) xs
all_below r [] none = All-nil (λ x. x.rank < r)
all_below r (x ∷ xs) none =
    let sum : late r x + weigh (late r) xs ≡ 0 = none in
    let first : (x.rank + 1) - r ≡ 0 = omega (arith, sum) in
    All-cons (λ y. y.rank < r) x xs (omega (arith, first)) (all_below r xs (omega (arith, sum)))

-- one that is above all goes to the end
rises_above : (xs : List Ranked) (x : Ranked) → All (λ y. y.rank < x.rank) xs → Rises xs → Rises (xs ++ x ∷ [])
rises_above xs x above up i j a b at at' before =
    elim (at_push xs x b j at') [
      | inl last ↦ elim (at_push xs x a i at) [
        | inl both ↦ absurd (omega (arith, both.0, last.0, before))
        | inr there ↦ omega (arith, ap (λ (y : Ranked). y.rank) last.1, All_at (λ y. y.rank < x.rank) xs i a above there)
      ]
      | inr there' ↦ elim (at_push xs x a i at) [
        | inl both ↦ absurd (omega (arith, both.0, before, slice_get_within xs j b there'))
        | inr there ↦ up i j a b there there' before
      ]
    ]

nil_rises : Rises []
nil_rises i j x y at at' before = absurd (none-some x at)

pub rises_none : (xs : List Ranked) → xs ≡ [] → Rises xs
rises_none xs is = subst Rises (sym is) nil_rises

total_set : (f : PassLog → ℕ) (views : List PassLog) (port : ℕ) (v w : PassLog) → get_elem? views port ≡ some v
    → total f (set views port w) + f v ≡ total f views + f w
total_set f [] port v w at = absurd (some-ne-none v (sym at))
total_set f (u ∷ us) zero v w at = let e : f u ≡ f v = ap f cc in omega (arith, e)
total_set f (u ∷ us) (suc port) v w at = omega (arith, total_set f us port v w at)

total-append : (f : PassLog → ℕ) (xs ys : List PassLog) → total f (xs ++ ys) ≡ total f xs + total f ys
total-append f [] ys = omega arith
total-append f (x ∷ xs) ys = omega (arith, total-append f xs ys)

-- one pass is within the total
at_most : (f : PassLog → ℕ) (views : List PassLog) (port : ℕ) (v : PassLog) → get_elem? views port ≡ some v → f v ≤ total f views
at_most f [] port v at = absurd (some-ne-none v (sym at))
at_most f (u ∷ us) zero v at = let e : f u ≡ f v = ap f cc in omega (arith, e)
at_most f (u ∷ us) (suc port) v at = omega (arith, at_most f us port v at)

idle_set : (views : List PassLog) (port : ℕ) (w : PassLog) → (w.parts ≡ 0 → (w.pushed ≡ []) × (w.popped ≡ [])) → IdleIsEmpty views
    → IdleIsEmpty (set views port w)
idle_set views port w mine old j u at none =
    ⊎_elim (λ (x : (j ≡ port) × (w ≡ u)). subst (λ (y : PassLog). (y.pushed ≡ []) × (y.popped ≡ [])) x.1
    (mine (ap (λ (y : PassLog). y.parts) x.1 ∙ none)))
    (λ (x : (j ≢ port) × (get_elem? views j ≡ some u)). old j u x.1 none) (at_set views port j w u at)

first_idle : (port : ℕ) (v : PassLog) → get_elem? (pass_log ALL [] [] ∷ []) port ≡ some v → v.parts ≡ 0 → (v.pushed ≡ []) × (v.popped ≡ [])
first_idle zero v at none = let e : pass_log ALL [] [] ≡ v = cc in let parts : ALL ≡ v.parts = ap (λ (y : PassLog). y.parts) e in
    absurd (omega arith)
first_idle (suc port) v at none = absurd (some-ne-none v (sym at))

-- no rank of a pass is past those of the order
below : (f : PassLog → List Ranked) (order : List ℕ) (views : List PassLog) (port : ℕ) (v : PassLog) → get_elem? views port ≡ some v
    → ((h : Ranked → ℕ) → total (λ u. weigh h (f u)) views ≡ weigh h (ranked 0 order)) → All (λ x. x.rank < length order) (f v)
below f order views port v at sum =
    let r = length order in
    let most = at_most (λ u. weigh (late r) (f u)) views port v at in
    all_below r (f v) (omega (arith, most, sum (late r), none_late r 0 order (omega arith)))

pub begins : FirstInFirstOut [] (pass_log ALL [] [] ∷ [])
begins = record {
  parts = refl;
  front = [];
  pushed = λ h. refl;
  popped = λ h. refl;
  idle = first_idle;
}

pub pushes : (n port : ℕ) (v : PassLog) (x : ℕ) → 0 < v.parts → Pushes FirstInFirstOut n port v x (Pushed v x)
pushes n port v x some_part items views room b at =
    let order = b.front ++ items in
    let one = ranked_at (length order) x in
    let w = pushed_by v one in (
      w,
      record {
        parts = (let s = total_set (λ u. u.parts) views port v w at in let p = b.parts in omega arith);
        front = b.front;
        pushed = λ h.
            let s = total_set (λ u. weigh h u.pushed) views port v w at in
            omega (arith, s, b.pushed h, weigh-append h v.pushed (one ∷ []), weigh-queued h b.front items x);
        popped = λ h. let t = total_set (λ u. weigh h u.popped) views port v w at in omega (arith, t, b.popped h);
        idle = idle_set views port w (λ none. absurd (omega arith)) b.idle;
      },
      record {
        rank = length order;
        above = below (λ u. u.pushed) order views port v at b.pushed;
        new = refl;
      },
    )

pub pops : (port : ℕ) (v : PassLog) → 0 < v.parts → Pops FirstInFirstOut port v (Popped v)
pops port v some_part x items views b at =
    let one = ranked_at (length b.front) x in
    let w = popped_by v one in (
      w,
      record {
        parts = (let s = total_set (λ u. u.parts) views port v w at in let p = b.parts in omega arith);
        front = b.front ++ x ∷ [];
        pushed = λ h.
            let s = total_set (λ u. weigh h u.pushed) views port v w at in
            omega (arith, s, b.pushed h, weigh-moved h b.front items x);
        popped = λ h.
            let t = total_set (λ u. weigh h u.popped) views port v w at in
            let last = weigh-last h 0 b.front x (length b.front) (omega arith) in
            omega (arith, t, b.popped h, weigh-append h v.popped (one ∷ []), last);
        idle = idle_set views port w (λ none. absurd (omega arith)) b.idle;
      },
      record {
        rank = length b.front;
        above = below (λ u. u.popped) b.front views port v at b.popped;
        new = refl;
      },
    )

-- a pass gives some parts, but not its last one, and nothing of what it did
pub forks : (port : ℕ) (v : PassLog) (n : ℕ) → n < v.parts → Forks FirstInFirstOut port v (pass_log (v.parts - n) v.pushed v.popped) (pass_log n [] [])
forks port v n rest items views b at =
    let l = pass_log (v.parts - n) v.pushed v.popped in
    let r = pass_log n [] [] in
    let vs = set views port l in
    let old : IdleIsEmpty vs = idle_set views port l (λ none. absurd (omega arith)) b.idle in
    record {
      parts = (let s = total_set (λ u. u.parts) views port v l at in let p = b.parts in
          omega (arith, total-append (λ u. u.parts) vs (r ∷ [])));
      front = b.front;
      pushed = λ h.
          let s = total_set (λ u. weigh h u.pushed) views port v l at in
          omega (arith, s, b.pushed h, total-append (λ u. weigh h u.pushed) vs (r ∷ []));
      popped = λ h.
          let t = total_set (λ u. weigh h u.popped) views port v l at in
          omega (arith, t, b.popped h, total-append (λ u. weigh h u.popped) vs (r ∷ []));
      idle = λ j u here none. ⊎_elim (λ (x : get_elem? vs j ≡ some u). old j u x none)
          (λ (is : r ≡ u). (ap (λ (y : PassLog). y.pushed) (sym is), ap (λ (y : PassLog). y.popped) (sym is))) (at_snoc vs r u j here);
    }

pub merges : (port : ℕ) (v : PassLog) (other : ℕ) (u : PassLog) → 0 < v.parts
    → Merges FirstInFirstOut port v other u (pass_log (v.parts + u.parts) (v.pushed ++ u.pushed) (v.popped ++ u.popped)) (pass_log 0 [] [])
merges port v other u some_part items views b at apart at' =
    let both = pass_log (v.parts + u.parts) (v.pushed ++ u.pushed) (v.popped ++ u.popped) in
    let none = pass_log 0 [] [] in
    let vs = set views port both in
    record {
      parts = (let s = total_set (λ y. y.parts) views port v both at in let t = total_set (λ y. y.parts) vs other u none at' in let p =
          b.parts in omega arith);
      front = b.front;
      pushed = λ h.
          let s = total_set (λ y. weigh h y.pushed) views port v both at in
          let s' = total_set (λ y. weigh h y.pushed) vs other u none at' in
          omega (arith, s, s', b.pushed h, weigh-append h v.pushed u.pushed);
      popped = λ h.
          let t = total_set (λ y. weigh h y.popped) views port v both at in
          let t' = total_set (λ y. weigh h y.popped) vs other u none at' in
          omega (arith, t, t', b.popped h, weigh-append h v.popped u.popped);
      idle = idle_set vs other none (λ _. (refl, refl)) (idle_set views port both (λ no. absurd (omega arith)) b.idle);
    }

-- where no pass has a part, f, which is 0 of each pass with no part, is 0 in all
none_left : (f : PassLog → ℕ) (views : List PassLog) → ((j : ℕ) (u : PassLog) → get_elem? views j ≡ some u → u.parts ≡ 0 → f u ≡ 0)
    → total (λ u. u.parts) views ≡ 0 → total f views ≡ 0
none_left f [] idle all = refl
none_left f (u ∷ us) idle all = omega (arith, idle 0 u refl (omega arith), none_left f us (λ j v at. idle (suc j) v at) (omega arith))

-- where a pass has all parts, the total of f is that pass's
alone : (f : PassLog → ℕ) (views : List PassLog) (port : ℕ) (v : PassLog) → ((j : ℕ) (u : PassLog) → get_elem? views j ≡ some u → u.parts ≡ 0 → f u ≡ 0)
    → get_elem? views port ≡ some v → total (λ u. u.parts) views ≡ v.parts → total f views ≡ f v
alone f [] port v idle at all = absurd (some-ne-none v (sym at))
alone f (u ∷ us) zero v idle at all =
    let e : u ≡ v = cc in
    let same : f u ≡ f v = ap f e in
    let parts : u.parts ≡ v.parts = ap (λ (y : PassLog). y.parts) e in
    omega (arith, none_left f us (λ j y here. idle (suc j) y here) (omega arith))
alone f (u ∷ us) (suc port) v idle at all =
    let most = at_most (λ y. y.parts) us port v at in
    let rest : total (λ y. y.parts) us ≡ v.parts = omega arith in
    omega (arith, idle 0 u refl (omega arith), alone f us port v (λ j y here. idle (suc j) y here) at rest)

pub learns : (port : ℕ) (v : PassLog) → v.parts ≡ ALL → Learns FirstInFirstOut port v (λ items. HasInOrder items v)
learns port v all items views b at = record {
  front = b.front;
  pushed = λ h.
      let s = alone (λ u. weigh h u.pushed) views port v (λ j u here no. ap (weigh h) (b.idle j u here no).0) at (b.parts ∙ sym all) in
      omega (arith, s, b.pushed h);
  popped = λ h.
      let t = alone (λ u. weigh h u.popped) views port v (λ j u here no. ap (weigh h) (b.idle j u here no).1) at (b.parts ∙ sym all) in
      omega (arith, t, b.popped h);
}

-- a push and a pop keep the order of what a pass did
pub pushed_rises : (v w : PassLog) (x : ℕ) → Pushed v x w → Rises v.pushed → Rises w.pushed
pushed_rises v w x p up =
    subst (λ (u : PassLog). Rises u.pushed) (sym p.new) (rises_above v.pushed (ranked_at p.rank x) p.above up)

pub popped_rises : (v w : PassLog) (x : ℕ) → Popped v x w → Rises v.popped → Rises w.popped
popped_rises v w x p up =
    subst (λ (u : PassLog). Rises u.popped) (sym p.new) (rises_above v.popped (ranked_at p.rank x) p.above up)
