-- The rule of the job queue, first in, first out: what each pass pushed and popped, by the flights and their ranks.
use Rattle.std.specs.Prelude.{◌≡◌, ℕ, ◌+◌, ◌<◌, List, [], ◌∷◌, ◌++◌, All, slice_get, Option, None, Some}
use mathlib.Core.Option.{some}
use lib.ListN.{get_elem?}
use Rattle.peer_fill.specs.declared.jobs.PassLog.{PassLog}
use Rattle.peer_fill.specs.declared.jobs.Ranked.{Ranked}

-- a flight, and its rank: how many jobs were pushed before its own
abbrev pub ranked_at : ℕ → ℕ → Ranked
ranked_at rank number = record { rank = rank; number = number }

-- these flights in this order, with ranks from n on
abbrev pub ranked : ℕ → List ℕ → List Ranked
ranked n [] = []
ranked n (x ∷ xs) = ranked_at n x ∷ ranked (n + 1) xs

-- each has a higher rank than those before it
abbrev pub Rises : List Ranked → Type 0
Rises xs = (i j : ℕ) (x y : Ranked) → slice_get xs i ≡ Some x → slice_get xs j ≡ Some y → i < j → x.rank < y.rank

-- what a pass has: its parts, and the flights that it pushed and popped
abbrev pub pass_log : ℕ → List Ranked → List Ranked → PassLog
pass_log parts pushed popped = record { parts = parts; pushed = pushed; popped = popped }

-- the same once it has pushed a flight
abbrev pub pushed_by : PassLog → Ranked → PassLog
pushed_by v one = pass_log v.parts (v.pushed ++ one ∷ []) v.popped

-- the same once it has popped a flight
abbrev pub popped_by : PassLog → Ranked → PassLog
popped_by v one = pass_log v.parts v.pushed (v.popped ++ one ∷ [])

-- it pushed this flight, whose rank is above those of all that it pushed before
pub record Pushed (v : PassLog) (number : ℕ) (w : PassLog) : Type 0 where
  pub rank : ℕ
  pub above : All (λ x. x.rank < rank) v.pushed
  pub new : w ≡ pushed_by v (ranked_at rank number)

-- it popped this flight, whose rank is above those of all that it popped before
pub record Popped (v : PassLog) (number : ℕ) (w : PassLog) : Type 0 where
  pub rank : ℕ
  pub above : All (λ x. x.rank < rank) v.popped
  pub new : w ≡ popped_by v (ranked_at rank number)

-- the third has the parts of both others, and did what both did
abbrev pub AreJoined : PassLog → PassLog → PassLog → Type 0
AreJoined v w both = both ≡ pass_log (v.parts + w.parts) (v.pushed ++ w.pushed) (v.popped ++ w.popped)

-- 1 where a job is left that was not pushed
abbrev pub left_count : Option ℕ → ℕ
left_count None = 0
left_count (Some number) = 1

-- the weights of the flights, added up
abbrev pub weigh : (Ranked → ℕ) → List Ranked → ℕ
weigh h [] = 0
weigh h (x ∷ xs) = h x + weigh h xs

-- f of each pass, added up
abbrev pub total : (PassLog → ℕ) → List PassLog → ℕ
total f [] = 0
total f (v ∷ vs) = f v + total f vs

-- the parts of a queue: 16 for the workers, and 16 for the connections
abbrev pub ALL : ℕ
ALL = 32

-- a pass with no part has pushed and popped nothing
abbrev pub IdleIsEmpty : List PassLog → Type 0
IdleIsEmpty views = (port : ℕ) (v : PassLog) → get_elem? views port ≡ some v → v.parts ≡ 0 → (v.pushed ≡ []) × (v.popped ≡ [])

-- first in, first out: of one order of all that was pushed the front was popped, and the rest is queued, however they are weighed
pub record FirstInFirstOut (items : List ℕ) (views : List PassLog) : Type 0 where
  pub parts : total (λ v. v.parts) views ≡ ALL
  pub front : List ℕ
  pub pushed : (h : Ranked → ℕ) → total (λ v. weigh h v.pushed) views ≡ weigh h (ranked 0 (front ++ items))
  pub popped : (h : Ranked → ℕ) → total (λ v. weigh h v.popped) views ≡ weigh h (ranked 0 front)
  pub idle : IdleIsEmpty views

-- the same of a pass that has pushed and popped all
pub record HasInOrder (items : List ℕ) (v : PassLog) : Type 0 where
  pub front : List ℕ
  pub pushed : (h : Ranked → ℕ) → weigh h v.pushed ≡ weigh h (ranked 0 (front ++ items))
  pub popped : (h : Ranked → ℕ) → weigh h v.popped ≡ weigh h (ranked 0 front)
