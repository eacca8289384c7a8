-- Worlds that events reach: each further event reaches one, and each is sound.
use Rattle.std.proofs.Common.{◌≡◌, ℕ, ◌<◌, Bool, true, false, Result, Ok, Err, List, [], ◌∷◌, ◌++◌, length, get_or, Some, refl, ap, sym, subst, ◌∙◌}
use Rattle.std.specs.Prelude.{IfOk, OnErr}
use Rattle.std.proofs.Math.ListN.{set}
use Rattle.std.proofs.Math.Dec.{ltb}
use Rattle.std.proofs.lemmas.Bool.{ltb-true}
use Rattle.std.proofs.lemmas.List.{set-get_or}
use Rattle.std.proofs.lemmas.Option.{slice_get-get_or, same_Some}
use Rattle.std.specs.List.{slice_get}
use mathlib.Core.Logic.{∥∥₁_map}
use Rattle.peer_source.specs.Answers.{Answer}
use Rattle.peer_flight.specs.SingleFlight.{State, IsSame}
use Rattle.peer_flight.specs.World.{Connection, World, start}
use Rattle.peer_flight.specs.Events.{Event, Happens, Run, GoesOn}
use Rattle.flight_world.specs.Calls.{IsReached, IsRefused, WhereAllowed}
use Rattle.peer_flight.proofs.Sound.{Sound}
use Rattle.peer_flight.proofs.EveryRun.{start_sound, run_sound}

-- tables that say the same are the same
pub same_state : (s s' : State) → IsSame s s' → s' ≡ s
same_state s s' same = λ i. record { number = same.number i; live = λ p. same.live p i }

-- one event more
run_more : (allowed : ℕ → List ℕ → Answer → Type 0) (events : List Event) (e : Event) (w mid w' : World) → Run allowed events w mid → Happens allowed mid e w' → Run allowed (events ++ e ∷ []) w w'
run_more allowed [] e w mid w' run happens = (w', subst (λ x. Happens allowed x e w') run happens, refl)
run_more allowed (x ∷ xs) e w mid w' run happens = (run.0, run.1, run_more allowed xs e run.0 mid w' run.2 happens)

module _ {allowed : ℕ → List ℕ → Answer → Type 0} where
  pub reached_start : (workers connections : ℕ) (w : World) → w ≡ start workers connections → ∥ IsReached allowed w ∥₁
  reached_start workers connections w is = ∣ record { workers = workers; connections = connections; events = []; run = is } ∣₁

  pub reached_after : (w w' : World) (e : Event) → ∥ IsReached allowed w ∥₁ → Happens allowed w e w' → ∥ IsReached allowed w' ∥₁
  reached_after w w' e reached happens =
      ∥∥₁_map reached (λ (r : IsReached allowed w). record {
        workers = r.workers;
        connections = r.connections;
        events = r.events ++ e ∷ [];
        run = run_more allowed r.events e (start r.workers r.connections) w w' r.run happens;
      })

  pub reached_same : (w w' : World) → ∥ IsReached allowed w ∥₁ → w' ≡ w → ∥ IsReached allowed w' ∥₁
  reached_same w w' reached is = subst (λ x. ∥ IsReached allowed x ∥₁) (sym is) reached

  pub reached_sound : (w : World) → ∥ IsReached allowed w ∥₁ → ∥ Sound allowed w ∥₁
  reached_sound w reached =
      ∥∥₁_map reached (λ (r : IsReached allowed w). run_sound allowed r.events (start r.workers r.connections) w (start_sound allowed r.workers r.connections) r.run)

-- what a borrow of an element tells
pub borrowed : {X : Type 0} (xs : List X) (i : ℕ) (x : X) → i < length xs → x ≡ get_or xs i x → slice_get xs i ≡ Some x
borrowed xs i x within is = slice_get-get_or xs i x within ∙ ap Some (sym is)

-- the same, where the index was tested
pub lent : {X : Type 0} (xs : List X) (i : ℕ) (x : X) → true ≡ ltb i (length xs) → x ≡ get_or xs i x → slice_get xs i ≡ Some x
lent xs i x within is = borrowed xs i x (ltb-true i (length xs) (sym within)) is

-- the same element written back
pub set_back : {X : Type 0} (xs : List X) (i : ℕ) (x : X) → x ≡ get_or xs i x → set xs i x ≡ xs
set_back xs i x is = ap (set xs i) is ∙ set-get_or xs i x

-- a connection of a world, and what becomes of the world where the connection became another
module _ (w : World) (i : ℕ) (old new : Connection) (within : true ≡ ltb i (length w.connections)) (is : old ≡ get_or w.connections i old) where
  abbrev pub with_connection : World
  with_connection = record w { connections = set w.connections i new }

  pub stays_so : new ≡ old → with_connection ≡ w
  stays_so same = λ j. record w { connections = (ap (set w.connections i) same ∙ set_back w.connections i old is) j }

  pub refused_at : (Step : Connection → Connection → Type 0) → IsRefused Step old new → IsRefused (GoesOn Step i) w with_connection
  refused_at Step refused = record {
    same = stays_so refused.same;
    nowhere = λ w' goes. refused.nowhere goes.new (subst (λ x. Step x goes.new) (same_Some goes.old old (sym goes.here ∙ lent w.connections i old within is)) goes.step);
  }

  pub goes_at : (Step : Connection → Connection → Type 0) → Step old new → GoesOn Step i w with_connection
  goes_at Step step = record { old = old; here = lent w.connections i old within is; new = new; step = step; after = refl }

  pub where_allowed : (Step : Connection → Connection → Type 0) (done : Bool) → WhereAllowed done Step old new → WhereAllowed done (GoesOn Step i) w with_connection
  where_allowed Step true step = goes_at Step step
  where_allowed Step false refused = refused_at Step refused

  pub ok_where_allowed : {E : Type 0} (Step : Connection → Connection → Type 0) (r : Result Bool E) → IfOk r (λ done. WhereAllowed done Step old new) → IfOk r (λ done. WhereAllowed done (GoesOn Step i) w with_connection)
  ok_where_allowed Step (Ok done) went = where_allowed Step done went
  ok_where_allowed Step (Err e) went = tt

  -- either way the world is reached
  pub reached_at : {E : Type 0} {allowed : ℕ → List ℕ → Answer → Type 0} (Step : Connection → Connection → Type 0) (e : Event) → ((w' : World) → GoesOn Step i w w' → Happens allowed w e w') → (r : Result Bool E) → IfOk r (λ done. WhereAllowed done Step old new) → OnErr r (new ≡ old) → ∥ IsReached allowed w ∥₁ → ∥ IsReached allowed with_connection ∥₁
  reached_at Step e is_event (Ok true) went refused reached = reached_after w with_connection e reached (is_event with_connection (goes_at Step went))
  reached_at Step e is_event (Ok false) went refused reached = reached_same w with_connection reached (stays_so went.same)
  reached_at Step e is_event (Err f) went refused reached = reached_same w with_connection reached (stays_so refused)
