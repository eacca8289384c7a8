-- What the threads of a server keep in one step and the next, and what one seat does to the parts of all.
use Rattle.std.proofs.Common.{◌≡◌, ◌∙◌, ℕ, ◌+◌, Bool, List, [], ◌∷◌, ◌++◌, arith, sum_by}
use Rattle.peer_source.specs.declared.source.Source as Source
use Rattle.std.specs.declared.sync.ledger.Ledger as Ledger
use Rattle.peer_fill.proofs.Lasts.{sum_last}
use Rattle.peer_loop.specs.StartedThreads.{KeepAll}
use Rattle.peer_loop.specs.declared.server_threads.ServerThreads.{ServerThreads}

module _ {S L : Type 0} {g : Source.Ghosts S} {h : Ledger.Ghosts L} (carried : List ℕ → List ℕ → Bool → Type 0) where
  pub goes_on : (one two three : ServerThreads S L g h) → KeepAll carried one two → KeepAll carried two three → KeepAll carried one three
  goes_on one two three a b = record { is = b.is; pool = b.pool ∙ a.pool; conns = b.conns ∙ a.conns; fills = b.fills ∙ a.fills }

-- the parts of one that is handed out are among those that were handed out
pub hands_out : {X : Type 0} (f : X → ℕ) (xs ys : List X) (x : X) (old new w n : ℕ) → ys ≡ xs ++ x ∷ [] → old ≡ new + w → f x ≡ w
    → old + sum_by f xs ≡ n → new + sum_by f ys ≡ n
hands_out f xs ys x old new w n more less same sum = omega (arith, sum_last f ys xs x more, less, same, sum)

-- the parts of one that comes back are among those that are there
pub comes_back : {X : Type 0} (f : X → ℕ) (xs ys : List X) (x : X) (old new w n : ℕ) → xs ≡ ys ++ x ∷ [] → new ≡ old + w → w ≡ f x
    → old + sum_by f xs ≡ n → new + sum_by f ys ≡ n
comes_back f xs ys x old new w n less more same sum = omega (arith, sum_last f xs ys x less, more, same, sum)
