-- The calls of a world, over plain values: the event that each was, or why none was allowed.
use Rattle.std.proofs.Common.{◌≡◌, ◌≢◌, ℕ, ◌+◌, ◌<◌, ◌≤◌, Bool, true, false, Result, Ok, Err, List, [], ◌∷◌, ◌++◌, length, get_or, drop, Some, ap, sym, subst, ◌∙◌, arith}
use Rattle.std.specs.Prelude.{IfOk, OnErr, MatchBool}
use Rattle.std.specs.Option.{IfSome}
use Rattle.std.specs.Coded.{le_prop}
use Rattle.std.proofs.Math.ListN.{set}
use Rattle.std.proofs.lemmas.Bool.{true≢false}
use Rattle.std.proofs.lemmas.Option.{slice_get_within, same_Some}
use Rattle.std.specs.List.{slice_get}
use mathlib.Core.Logic.{∥∥₁_elim}
use Rattle.peer_source.specs.Answers.{Answer, Filled}
use Rattle.peer_flight.specs.SingleFlight.{Place, place_of, State, IsSame, Lands}
use Rattle.peer_flight.specs.World.{Wish, Ticket, Flight, WithTicket, WithRight, Worker, Idle, Filling, Landing, Connection, World}
use Rattle.peer_flight.specs.Events.{JOBS, MayWant, WantsAs, PutsJob, TakesJob, LandsFlight, SeesOutcome, SeesAt, GoesOn, Want}
use Rattle.flight_world.specs.Calls.{IsReached, IsRefused, WhereAllowed}
use Rattle.flight_world.specs.Views.{SeesNone, SetsFill, WantsAt, outcome_by}
use Rattle.peer_flight.proofs.ListSteps.{All_at}
use Rattle.peer_flight.proofs.Sound.{IsGood, Sound}
use Rattle.flight_world.proofs.Seeing.{may_bring, wants_from}
use Rattle.flight_world.proofs.Reaching.{same_state, reached_after, reached_same, reached_sound, set_back}

-- what a call tells of an outcome that a connection saw, or did not
abbrev pub Saw : {E : Type 0} → List Flight → Connection → Connection → Result Bool E → Type 0
Saw flights old new r = IfOk r (λ seen. MatchBool seen (SeesOutcome flights old new) ((new ≡ old) × SeesNone flights old))

-- an index past the end has no element
pub none_past : {X : Type 0} (xs : List X) (i : ℕ) → (i < length xs → false ≡ true) → (x : X) → slice_get xs i ≢ Some x
none_past xs i past x is = true≢false (sym (past (slice_get_within xs i x is)))

-- the first of a list, and the rest
pub first_rest : (ns rest : List ℕ) (n : ℕ) → 0 < length ns → n ≡ get_or ns 0 n → rest ≡ drop 1 ns → ns ≡ n ∷ rest
first_rest [] rest n some is left = absurd (omega arith)
first_rest (x ∷ xs) rest n some is left = λ i. sym is i ∷ sym left i

module _ (w : World) where
  -- nothing is written but a worker or a flight that stays
  pub refuses_worker : (Step : World → World → Type 0) (v : ℕ) (x : Worker) → x ≡ get_or w.workers v x → ((w' : World) → Step w w' → ⊥) → IsRefused Step w (record w { workers = set w.workers v x })
  refuses_worker Step v x is never = record { same = λ i. record w { workers = set_back w.workers v x is i }; nowhere = never }

  pub refuses_both : (Step : World → World → Type 0) (v m : ℕ) (x : Worker) (f : Flight) → x ≡ get_or w.workers v x → f ≡ get_or w.flights m f → ((w' : World) → Step w w' → ⊥) → IsRefused Step w (record w { flights = set w.flights m f; workers = set w.workers v x })
  refuses_both Step v m x f is led never = record { same = λ i. record w { flights = set_back w.flights m f led i; workers = set_back w.workers v x is i }; nowhere = never }

  -- in a world that is reached each count of a flight is 1 at most
  module _ {allowed : ℕ → List ℕ → Answer → Type 0} (reached : ∥ IsReached allowed w ∥₁) (m : ℕ) (f : Flight) (led : slice_get w.flights m ≡ Some f) where
    pub taken_once : f.taken ≤ 1
    taken_once = ∥∥₁_elim (reached_sound w reached) le_prop (λ (s : Sound allowed w). let b = s.counted.each m f led in omega arith)

    pub sets_once : f.sets ≤ 1
    sets_once = ∥∥₁_elim (reached_sound w reached) le_prop (λ (s : Sound allowed w). let b = s.counted.each m f led in omega arith)

    pub landed_once : f.landed ≤ 1
    landed_once = ∥∥₁_elim (reached_sound w reached) le_prop (λ (s : Sound allowed w). let b = s.counted.each m f led in omega arith)

  -- job put
  pub puts_job : (c number : ℕ) (old new : Connection) (ticket : Ticket) (jobs : List ℕ) → slice_get w.connections c ≡ Some old → old.hand ≡ WithRight ticket number → new ≡ record old { hand = WithTicket ticket } → length w.jobs < JOBS → jobs ≡ w.jobs ++ number ∷ [] → PutsJob c w (record w { jobs = jobs; connections = set w.connections c new })
  puts_job c number old new ticket jobs here held turned room more = record {
    old = old;
    here = here;
    ticket = ticket;
    number = number;
    held = held;
    room = room;
    after = λ i. record w { jobs = more i; connections = set w.connections c (turned i) };
  }

  pub puts_no_job : (c : ℕ) (old : Connection) → slice_get w.connections c ≡ Some old → ((t : Ticket) (m : ℕ) → old.hand ≢ WithRight t m) → (w' : World) → PutsJob c w w' → ⊥
  puts_no_job c old here never w' e =
      let same : old ≡ e.old = same_Some old e.old (sym here ∙ e.here) in
      never e.ticket e.number (ap (λ (x : Connection). x.hand) same ∙ e.held)

  -- job taken
  pub takes_job : (v m : ℕ) (x : Worker) (f new : Flight) (jobs : List ℕ) → slice_get w.workers v ≡ Some x → x ≡ Idle → slice_get w.flights m ≡ Some f → w.jobs ≡ m ∷ jobs → new ≡ record f { taken = f.taken + 1 } → TakesJob v w (record w { flights = set w.flights m new; jobs = jobs; workers = set w.workers v (Filling m) })
  takes_job v m x f new jobs here idle led first counted = record {
    idle = here ∙ ap Some idle;
    number = m;
    rest = jobs;
    first = first;
    flight = f;
    led = led;
    after = λ i. record w { flights = set w.flights m (counted i); jobs = jobs; workers = set w.workers v (Filling m) };
  }

  pub takes_no_flight : (v m : ℕ) → m ≡ get_or w.jobs 0 m → ((f : Flight) → slice_get w.flights m ≢ Some f) → (w' : World) → TakesJob v w w' → ⊥
  takes_no_flight v m is none w' e =
      let same : m ≡ e.number = is ∙ ap (λ (ns : List ℕ). get_or ns 0 m) e.first in
      none e.flight (ap (slice_get w.flights) same ∙ e.led)

  pub takes_with_full_hands : (v : ℕ) (x : Worker) → slice_get w.workers v ≡ Some x → x ≢ Idle → (w' : World) → TakesJob v w w' → ⊥
  takes_with_full_hands v x here busy w' e = busy (same_Some x Idle (sym here ∙ e.idle))

  -- outcome set
  module _ (allowed : ℕ → List ℕ → Answer → Type 0) (fill : Filled) (v : ℕ) (x : Worker) (here : slice_get w.workers v ≡ Some x) where
    pub sets_fill : (m : ℕ) (f new : Flight) → ∥ IfSome fill.answer (allowed fill.group fill.key) ∥₁ → x ≡ Filling m → slice_get w.flights m ≡ Some f → f.place ≡ place_of fill.group fill.key → new ≡ record f { outcome = outcome_by fill.answer; spent = true; sets = f.sets + 1 } → SetsFill allowed fill v w (record w { flights = set w.flights m new; workers = set w.workers v (Landing m) })
    sets_fill m f new law filling led of set_so = record {
      sets = record {
        number = m;
        held = here ∙ ap Some filling;
        flight = f;
        led = led;
        brought = may_bring allowed f.place fill.answer (subst (λ (p : Place). ∥ IfSome fill.answer (allowed p.group p.key) ∥₁) (sym of) law);
        after = λ i. record w { flights = set w.flights m (set_so i); workers = set w.workers v (Landing m) };
      };
      of = of;
    }

    pub sets_without_right : ((m : ℕ) → x ≢ Filling m) → (w' : World) → SetsFill allowed fill v w w' → ⊥
    sets_without_right never w' e = never e.sets.number (same_Some x (Filling e.sets.number) (sym here ∙ e.sets.held))

    module _ (m : ℕ) (filling : x ≡ Filling m) where
      number_same : (k : ℕ) → slice_get w.workers v ≡ Some (Filling k) → m ≡ k
      number_same k held = let e : Filling m ≡ Filling k = sym filling ∙ same_Some x (Filling k) (sym here ∙ held) in cc

      pub sets_no_flight : ((f : Flight) → slice_get w.flights m ≢ Some f) → (w' : World) → SetsFill allowed fill v w w' → ⊥
      sets_no_flight none w' e = none e.sets.flight (ap (slice_get w.flights) (number_same e.sets.number e.sets.held) ∙ e.sets.led)

      pub sets_another_place : (f : Flight) → slice_get w.flights m ≡ Some f → f.place ≢ place_of fill.group fill.key → (w' : World) → SetsFill allowed fill v w w' → ⊥
      sets_another_place f led other w' e =
          let same : f ≡ e.sets.flight = same_Some f e.sets.flight (sym led ∙ ap (slice_get w.flights) (number_same e.sets.number e.sets.held) ∙ e.sets.led) in
          other (ap (λ (y : Flight). y.place) same ∙ e.of)

  -- landed
  module _ (v : ℕ) (x : Worker) (here : slice_get w.workers v ≡ Some x) where
    pub lands_flight : (m : ℕ) (f new : Flight) (table : State) → x ≡ Landing m → slice_get w.flights m ≡ Some f → Lands w.table table f.place m → new ≡ record f { landed = f.landed + 1 } → LandsFlight v w (record w { table = table; flights = set w.flights m new; workers = set w.workers v Idle })
    lands_flight m f new table landing led lands counted = record {
      number = m;
      held = here ∙ ap Some landing;
      flight = f;
      led = led;
      table = table;
      lands = lands;
      after = λ i. record w { table = table; flights = set w.flights m (counted i); workers = set w.workers v Idle };
    }

    pub lands_nothing : ((m : ℕ) → x ≢ Landing m) → (w' : World) → LandsFlight v w w' → ⊥
    lands_nothing never w' e = never e.number (same_Some x (Landing e.number) (sym here ∙ e.held))

    pub lands_no_flight : (m : ℕ) → x ≡ Landing m → ((f : Flight) → slice_get w.flights m ≢ Some f) → (w' : World) → LandsFlight v w w' → ⊥
    lands_no_flight m landing none w' e =
        let both : Landing m ≡ Landing e.number = sym landing ∙ same_Some x (Landing e.number) (sym here ∙ e.held) in
        let same : m ≡ e.number = cc in
        none e.flight (ap (slice_get w.flights) same ∙ e.led)

  -- outcome seen, in a world that is reached
  pub sees_where_allowed : {allowed : ℕ → List ℕ → Answer → Type 0} {E : Type 0} (c : ℕ) (old new : Connection) (r : Result Bool E) → ∥ IsReached allowed w ∥₁ → slice_get w.connections c ≡ Some old → IfOk r (λ seen. MatchBool seen (SeesOutcome w.flights old new) ((new ≡ old) × SeesNone w.flights old)) → IfOk r (λ seen. WhereAllowed seen (SeesOutcome w.flights) old new)
  sees_where_allowed c old new (Ok true) reached here saw = saw
  sees_where_allowed c old new (Err e) reached here saw = tt
  sees_where_allowed {allowed = allowed} c old new (Ok false) reached here saw = record {
    same = saw.0;
    nowhere = saw.1 (λ on. ∥∥₁_elim (reached_sound w reached) le_prop (λ (s : Sound allowed w). let good : IsGood w.flights old = All_at (IsGood w.flights) w.connections c old s.good here in good.one on));
  }

  -- and the step of the world says the same
  pub sees_at : {E : Type 0} (c : ℕ) (w' : World) (r : Result Bool E) → IfOk r (λ seen. WhereAllowed seen (GoesOn (SeesOutcome w.flights) c) w w') → IfOk r (λ seen. WhereAllowed seen (SeesAt c) w w')
  sees_at c w' (Ok true) saw = saw
  sees_at c w' (Ok false) saw = record { same = saw.same; nowhere = saw.nowhere }
  sees_at c w' (Err e) saw = tt

  -- want
  module _ (wish : Wish) (c : ℕ) (old new : Connection) (table : State) (flights : List Flight) (here : slice_get w.connections c ≡ Some old) (is : old ≡ get_or w.connections c old) where
    abbrev pub wanted_world : World
    wanted_world = record w { table = table; flights = flights; connections = set w.connections c new }

    abbrev pub Stays : Type 0
    Stays = IsSame w.table table × (flights ≡ w.flights) × (new ≡ old)

    pub stays_so : Stays → wanted_world ≡ w
    stays_so same = λ i. record w { table = same_state w.table table same.0 i; flights = same.1 i; connections = (ap (set w.connections c) same.2 ∙ set_back w.connections c old is) i }

    module _ {E : Type 0} where
      pub wants_where_allowed : (r : Result Bool E) → IfOk r (λ wanted. MatchBool wanted (WantsAt wish w.table table w.flights flights old new) (¬ (MayWant old wish))) → (r ≢ Ok true → Stays) → IfOk r (λ wanted. WhereAllowed wanted (WantsAs wish c) w wanted_world)
      wants_where_allowed (Ok true) wanted stays = wants_from w wish c old new table flights here wanted
      wants_where_allowed (Ok false) never stays = record {
        same = stays_so (stays (λ e. cc));
        nowhere = λ w' e. never (subst (λ (x : Connection). MayWant x wish) (same_Some e.old old (sym e.here ∙ here)) e.may);
      }
      wants_where_allowed (Err e) wanted stays = tt

      pub wants_refused : (r : Result Bool E) → (r ≢ Ok true → Stays) → OnErr r (wanted_world ≡ w)
      wants_refused (Ok done) stays = tt
      wants_refused (Err e) stays = stays_so (stays (λ e. cc))

      pub wants_reached : {allowed : ℕ → List ℕ → Answer → Type 0} (r : Result Bool E) → IfOk r (λ wanted. MatchBool wanted (WantsAt wish w.table table w.flights flights old new) (¬ (MayWant old wish))) → (r ≢ Ok true → Stays) → ∥ IsReached allowed w ∥₁ → ∥ IsReached allowed wanted_world ∥₁
      wants_reached (Ok true) wanted stays reached = reached_after w wanted_world (Want c) reached (wish, wants_from w wish c old new table flights here wanted)
      wants_reached (Ok false) wanted stays reached = reached_same w wanted_world reached (stays_so (stays (λ e. cc)))
      wants_reached (Err f) wanted stays reached = reached_same w wanted_world reached (stays_so (stays (λ e. cc)))
