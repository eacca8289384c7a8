-- What seats pushed or popped, weighed, as they are taken in one after another.
use Rattle.std.proofs.Common.{◌≡◌, ℕ, ◌+◌, List, [], ◌∷◌, ◌++◌, append-nil, ap, ◌∙◌, arith, sum_by}
use Rattle.peer_fill.specs.declared.jobs.Ranked.{Ranked}
use Rattle.peer_fill.specs.Jobs.{weigh}
use Rattle.peer_fill.proofs.Lasts.{sum_last}
use Rattle.peer_fill.proofs.Ordering.{weigh-joined}

-- the first that is taken in has what the others lack
pub first_taken : {X : Type 0} (did : X → List Ranked) (xs ys : List X) (x : X) → xs ≡ ys ++ x ∷ [] → (w : Ranked → ℕ)
    → weigh w (did x) + sum_by (λ s. weigh w (did s)) ys ≡ sum_by (λ s. weigh w (did s)) xs
first_taken did xs ys x e w = omega (arith, sum_last (λ s. weigh w (did s)) xs ys x e)

-- one that did nothing adds nothing
pub none_more : (own more all : List Ranked) → all ≡ own ++ more → more ≡ [] → all ≡ own
none_more own more all joined none = joined ∙ ap (λ ys. own ++ ys) none ∙ append-nil own

-- one that is taken in takes its own along
pub next_taken : {X : Type 0} (did : X → List Ranked) (xs ys : List X) (x : X) (own all : List Ranked) (w : Ranked → ℕ) (n : ℕ)
    → xs ≡ ys ++ x ∷ [] → all ≡ own ++ did x → weigh w own + sum_by (λ s. weigh w (did s)) xs ≡ n
    → weigh w all + sum_by (λ s. weigh w (did s)) ys ≡ n
next_taken did xs ys x own all w n e joined before =
    omega (arith, sum_last (λ s. weigh w (did s)) xs ys x e, weigh-joined w all own (did x) joined, before)
