-- Every run from an empty world ends in a sound one, and what follows of a sound world.
use Rattle.std.proofs.Common.{◌≡◌, ℕ, ◌+◌, ◌↔◌, Bool, true, false, cond, IsTrue, List, [], ◌∷◌, get_or, Some, refl, ap, sym, subst, ◌∙◌, ◌⊎◌, inl, inr, arith}
use Rattle.std.proofs.Math.ListN.{set}
use Rattle.std.proofs.lemmas.List.Elements.{All-weaker, All-replicate, All-nil}
use Rattle.std.proofs.lemmas.List.Folds.{sum_by-replicate}
use Rattle.std.proofs.lemmas.Bool.{cases_eq}
use Rattle.std.proofs.lemmas.Option.{none-some, same_Some, slice_get-get_or}
use Rattle.std.specs.List.{slice_get, All}
use Rattle.peer_source.specs.Answers.{Answer}
use Rattle.peer_flight.specs.World.{Outcome, Unset, Answered, NoMemory, Flight, Worker, Idle, Filling, Landing, Connection, new_connection, World, start, tickets_of}
use Rattle.peer_flight.specs.Counts.{same, rights_in, filling, landing, fillers, landers}
use Rattle.peer_flight.specs.Events.{Event, Run}
use Rattle.peer_flight.specs.Laws.{Always, IsFlight, NamesItsPlace, IsServed, HasOutcome, Holds, TableIsExact, OpenFlightsDiffer, TicketsNameTheirPlaces, RightsStandOnce, TicketsAreServed, FlightsGoOnce, RepliesFollowOutcomes, WishesKeepOrder, WorkersDiffer, IsAnswered}
use Rattle.peer_flight.proofs.ListSteps.{sum_set, set_else}
use Rattle.peer_flight.proofs.Counting.{same_self}
use Rattle.peer_flight.proofs.Sound.{outcomes, IsGood, Sound}
use Rattle.peer_flight.proofs.EventSteps.{event_keeps}

-- an empty world is sound
pub start_sound : (allowed : ℕ → List ℕ → Answer → Type 0) (workers connections : ℕ) → Sound allowed (start workers connections)
start_sound allowed workers connections = record {
  counted = record {
    each = λ m x is. absurd (none-some x is);
    none = λ m past. omega (arith, sum_by-replicate (λ (c : Connection). rights_in m c.hand) connections new_connection, sum_by-replicate (filling m) workers Idle, sum_by-replicate (landing m) workers Idle);
  };
  tabled = record {
    number = refl;
    found = λ p m is. absurd (none-some m is);
    open_flight = λ m f is none. absurd (none-some f is);
  };
  good = All-replicate (IsGood []) connections new_connection (record {
    tickets = All-nil (NamesItsPlace []);
    order = refl;
    written = All-nil (IsAnswered []);
    one = λ on. omega arith;
  });
  allows = λ m f a is brought. absurd (none-some f is);
}

-- a run from a sound world ends in a sound one
pub run_sound : (allowed : ℕ → List ℕ → Answer → Type 0) (events : List Event) (w w' : World) → Sound allowed w → Run allowed events w w' → Sound allowed w'
run_sound allowed [] w w' s run = subst (Sound allowed) (sym run) s
run_sound allowed (e ∷ es) w w' s run = run_sound allowed es run.0 w' (event_keeps allowed w s e run.0 run.1) run.2

-- what follows of a sound world holds always
pub always : (allowed : ℕ → List ℕ → Answer → Type 0) (Fact : World → Type 0) → ((w : World) → Sound allowed w → Fact w) → Always allowed Fact
always allowed Fact follows workers connections events w run = follows w (run_sound allowed events (start workers connections) w (start_sound allowed workers connections) run)

-- a right is spent where there is an outcome
spent_where_set : (b : Bool) (o : Outcome) → outcomes o ≡ cond b 1 0 → IsTrue b ↔ HasOutcome o
spent_where_set true Unset is = absurd (omega arith)
spent_where_set true (Answered a) is = (λ t. tt, λ h. refl)
spent_where_set true NoMemory is = (λ t. tt, λ h. refl)
spent_where_set false Unset is = (λ (t : false ≡ true). cc, λ h. absurd h)
spent_where_set false (Answered a) is = absurd (omega arith)
spent_where_set false NoMemory is = absurd (omega arith)

-- an outcome, or a right not spent
served : (b : Bool) (o : Outcome) → outcomes o ≡ cond b 1 0 → HasOutcome o ⊎ (b ≡ false)
served false o is = inr refl
served true Unset is = absurd (omega arith)
served true (Answered a) is = inl tt
served true NoMemory is = inl tt

-- who holds a flight counts once
held_once : (v : Worker) (m : ℕ) → Holds v m → filling m v + landing m v ≡ 1
held_once Idle m holds = absurd holds
held_once (Filling k) m holds = omega (arith, same_self m k (sym holds))
held_once (Landing k) m holds = omega (arith, same_self m k (sym holds))

-- the counts that a worker at this place adds to
held_within : (workers : List Worker) (i : ℕ) (v : Worker) (m : ℕ) → slice_get workers i ≡ Some v → (fillers m (set workers i Idle) + filling m v ≡ fillers m workers) × (landers m (set workers i Idle) + landing m v ≡ landers m workers)
held_within workers i v m here = (omega (arith, sum_set (filling m) workers i v Idle here), omega (arith, sum_set (landing m) workers i v Idle here))

module _ {allowed : ℕ → List ℕ → Answer → Type 0} where
  pub open_flights_differ : (w : World) → Sound allowed w → OpenFlightsDiffer w
  open_flights_differ w s i j f g is_f is_g none_f none_g place =
      same_Some i j (sym (s.tabled.open_flight i f is_f none_f) ∙ ap w.table.live place ∙ s.tabled.open_flight j g is_g none_g)

  pub tickets_name_their_places : (w : World) → Sound allowed w → TicketsNameTheirPlaces w
  tickets_name_their_places w s = All-weaker (IsGood w.flights) (λ c. All (NamesItsPlace w.flights) (tickets_of c)) (λ c good. good.tickets) w.connections s.good

  pub rights_stand_once : (w : World) → Sound allowed w → RightsStandOnce w
  rights_stand_once w s m f is =
      let b = s.counted.each m f is in
      record { one = b.right; where_set = spent_where_set f.spent f.outcome (b.outcome ∙ sym b.uses) }

  pub tickets_are_served : (w : World) → Sound allowed w → TicketsAreServed w
  tickets_are_served w s =
      All-weaker (IsGood w.flights) (λ c. All (IsServed w.flights) (tickets_of c))
      (λ c good. All-weaker (NamesItsPlace w.flights) (IsServed w.flights)
      (λ t names m is.
      let there = names m is in
      let b = s.counted.each m there.0 there.1 in
      (there.0, there.1, served there.0.spent there.0.outcome (b.outcome ∙ sym b.uses)))
      (tickets_of c) good.tickets)
      w.connections s.good

  pub flights_go_once : (w : World) → Sound allowed w → FlightsGoOnce w
  flights_go_once w s k d within =
      let b = s.counted.each k (get_or w.flights k d) (slice_get-get_or w.flights k d within) in
      record { taken = omega arith; sets = omega arith; landed = omega arith }

  pub replies_follow_outcomes : (w : World) → Sound allowed w → RepliesFollowOutcomes w
  replies_follow_outcomes w s = All-weaker (IsGood w.flights) (λ c. All (IsAnswered w.flights) c.written) (λ c good. good.written) w.connections s.good

  pub wishes_keep_order : (w : World) → Sound allowed w → WishesKeepOrder w
  wishes_keep_order w s k d within = let good : IsGood w.flights (get_or w.connections k d) = s.good k d within in good.order

  -- a flight in a worker's hands has not landed
  open_in_hands : (w : World) → Sound allowed w → (i : ℕ) (v : Worker) (m : ℕ) (f : Flight) → slice_get w.workers i ≡ Some v → Holds v m → IsFlight w.flights m f → f.landed ≡ 0
  open_in_hands w s i v m f here holds is =
      let b = s.counted.each m f is in
      let one = held_once v m holds in
      let counts = held_within w.workers i v m here in
      omega (arith, counts.0, counts.1)

  pub workers_differ : (w : World) → Sound allowed w → WorkersDiffer w
  workers_differ w s i j v u m k f g at_i at_j holds_v holds_u is_f is_g place =
      let number : m ≡ k = open_flights_differ w s m k f g is_f is_g (open_in_hands w s i v m f at_i holds_v is_f) (open_in_hands w s j u k g at_j holds_u is_g) place in
      elim (cases_eq j i) [
        | inl same ↦ sym same
        | inr differ ↦
            let b = s.counted.each m f is_f in
            let holds_m : Holds u m = subst (Holds u) (sym number) holds_u in
            let first = held_within w.workers i v m at_i in
            let second = held_within (set w.workers i Idle) j u m (set_else w.workers i j Idle differ ∙ at_j) in
            let one = held_once v m holds_v in
            let other = held_once u m holds_m in
            absurd (omega (arith, first.0, first.1, second.0, second.1))
      ]

  pub table_is_exact : (w : World) → Sound allowed w → TableIsExact w
  table_is_exact w s = record { number = s.tabled.number; found = s.tabled.found; open_flight = s.tabled.open_flight }
