-- What a call says of the event that it carries out.
use Rattle.std.specs.Prelude.{◌≡◌, ℕ, Bool, List, MatchBool}
use Rattle.peer_source.specs.Answers.{Answer}
use Rattle.peer_flight.specs.World.{World, start}
use Rattle.peer_flight.specs.Events.{Event, Run}

-- some events lead from an empty world to this one
pub record IsReached (allowed : ℕ → List ℕ → Answer → Type 0) (w : World) : Type 0 where
  pub workers : ℕ
  pub connections : ℕ
  pub events : List Event
  pub run : Run allowed events (start workers connections) w

-- nothing changed, and the step leads nowhere from here
pub record IsRefused {X : Type 0} (Step : X → X → Type 0) (old new : X) : Type 0 where
  pub same : new ≡ old
  pub nowhere : (x : X) → Step old x → ⊥

-- where the step is allowed it happened, and else nothing: the answer tells which
abbrev pub WhereAllowed : {X : Type 0} → Bool → (X → X → Type 0) → X → X → Type 0
WhereAllowed answer Step old new = MatchBool answer (Step old new) (IsRefused Step old new)
