-- Each of the eight events keeps a world sound.
use Rattle.std.proofs.Common.{◌≡◌, ℕ, ◌+◌, Bool, true, false, List, [], ◌∷◌, ◌++◌, length, Option, Some, None, refl, ap, sym, subst, ◌∙◌, inl, inr, arith}
use Rattle.std.proofs.Math.ListN.{set}
use Rattle.std.proofs.lemmas.List.Elements.{All-set, All-weaker}
use Rattle.std.proofs.lemmas.List.Sums.{sum_by-cons}
use Rattle.std.proofs.lemmas.Option.{same_Some}
use Rattle.std.specs.List.{slice_get, All}
use Rattle.peer_source.specs.Answers.{Answer}
use Rattle.peer_flight.specs.SingleFlight.{Place}
use Rattle.peer_flight.specs.World.{Wish, Ticket, Outcome, Unset, Answered, NoMemory, Flight, new_flight, WithTicket, WithRight, Idle, Filling, Landing, Connection, World}
use Rattle.peer_flight.specs.Counts.{same, rights_in, filling, landing, hands, jobs, fillers, landers}
use Rattle.peer_flight.specs.Events.{Event, Want, JobPut, LanePut, JobTaken, OutcomeSet, Landed, OutcomeSeen, LaneTaken, pending, with_wish, JoinsFlight, LeadsFlight, WantsAs, Wants, PutsJob, PutsTicket, RepliesBy, TakesBy, TakesAs, TakesJob, MayBring, SetsAs, LandsFlight, SeesOutcome, TakesTicket, GoesOn, Happens}
use Rattle.peer_flight.specs.Laws.{IsFlight, NamesItsPlace}
use Rattle.peer_flight.proofs.ListSteps.{All_at, sum_set, sum_push, push_last}
use Rattle.peer_flight.proofs.Sound.{outcomes, IsGood, Sound}
use Rattle.peer_flight.proofs.Counting.{same_self, counted_same_f, counted_same_l, counted_moved, counted_led, counted_taken, counted_set, counted_landed, unset_while_filling, open_while_landing}
use Rattle.peer_flight.proofs.Tabling.{tabled_same, tabled_led, tabled_kept, tabled_landed, allowed_kept, allowed_led}
use Rattle.peer_flight.proofs.Turning.{Grows, grows_push, grows_set, good_still, wanted_good, handed_good, put_good, taken_good, seen_good}

-- the rights in hands after one connection went on
hands_set : (cs : List Connection) (i : ℕ) (c d : Connection) → slice_get cs i ≡ Some c → (m : ℕ) → hands m (set cs i d) + rights_in m c.hand ≡ hands m cs + rights_in m d.hand
hands_set cs i c d here m = sum_set (λ (x : Connection). rights_in m x.hand) cs i c d here

-- one connection goes on with the same right in its hand
turned : (allowed : ℕ → List ℕ → Answer → Type 0) (w : World) (i : ℕ) (c d : Connection) → Sound allowed w → slice_get w.connections i ≡ Some c → IsGood w.flights d → ((m : ℕ) → rights_in m d.hand ≡ rights_in m c.hand) → Sound allowed (record w { connections = set w.connections i d })
turned allowed w i c d s here good same_rights = record {
  counted = counted_moved (λ m. hands m (set w.connections i d)) (λ m. jobs m w.jobs) s.counted (λ m. omega (arith, hands_set w.connections i c d here m, same_rights m));
  tabled = s.tabled;
  good = All-set (IsGood w.flights) w.connections i d good s.good;
  allows = s.allows;
}

-- all connections stay good as flights go on
all_still : (flights flights' : List Flight) (cs : List Connection) → Grows flights flights' → All (IsGood flights) cs → All (IsGood flights') cs
all_still flights flights' cs grows good = All-weaker (IsGood flights) (IsGood flights') (λ c g. good_still flights flights' c grows g) cs good

-- what a flight may bring is an outcome
one_outcome : (allowed : ℕ → List ℕ → Answer → Type 0) (p : Place) (o : Outcome) → MayBring allowed p o → outcomes o ≡ 1
one_outcome allowed p Unset may = absurd may
one_outcome allowed p (Answered a) may = refl
one_outcome allowed p NoMemory may = refl

module _ (allowed : ℕ → List ℕ → Answer → Type 0) (w : World) (s : Sound allowed w) where
  -- the ticket of a wish names a flight of its place
  names_place : (wish : Wish) (p : Place) (m : ℕ) (flights : List Flight) → wish.place ≡ Some p → ((f : Flight) × IsFlight flights m f × (f.place ≡ p)) → NamesItsPlace flights (pending wish m)
  names_place wish p m flights asks there k is =
      let number : m ≡ k = same_Some m k is in
      (there.0, ap (slice_get flights) (sym number) ∙ there.1, asks ∙ ap Some (sym there.2))

  joined_keeps : (w' : World) (i : ℕ) (wish : Wish) (e : WantsAs wish i w w') → JoinsFlight w w' i e.old wish e.may.place e.number → Sound allowed w'
  joined_keeps w' i wish e step =
      let m = e.number in
      let t = pending wish m in
      let d = with_wish e.old wish (WithTicket t) in
      let there = s.tabled.found e.may.place m step.joins.live in
      let good = wanted_good w.flights e.old wish t (WithTicket t) (All_at (IsGood w.flights) w.connections i e.old s.good e.here) e.may.arrives.empty refl refl (names_place wish e.may.place m w.flights e.may.asks (there.0, there.1, there.2)) in
      subst (Sound allowed) (sym step.after) (record {
        counted = counted_moved (λ k. hands k (set w.connections i d)) (λ k. jobs k w.jobs) s.counted (λ k. omega (arith, hands_set w.connections i e.old d e.here k, ap (rights_in k) e.may.arrives.empty));
        tabled = tabled_same w.table step.table w.flights s.tabled step.joins.same;
        good = All-set (IsGood w.flights) w.connections i d good s.good;
        allows = s.allows;
      })

  led_keeps : (w' : World) (i : ℕ) (wish : Wish) (e : WantsAs wish i w w') → LeadsFlight w w' i e.old wish e.may.place e.number → Sound allowed w'
  led_keeps w' i wish e step =
      let m = e.number in
      let p = e.may.place in
      let t = pending wish m in
      let flights = w.flights ++ new_flight p ∷ [] in
      let grows = grows_push w.flights (new_flight p) in
      let d = with_wish e.old wish (WithRight t m) in
      let last : m ≡ length w.flights = step.leads.number ∙ s.tabled.number in
      let led : IsFlight flights m (new_flight p) = subst (λ k. IsFlight flights k (new_flight p)) (sym last) (push_last w.flights (new_flight p)) in
      let was = good_still w.flights flights e.old grows (All_at (IsGood w.flights) w.connections i e.old s.good e.here) in
      let good = wanted_good flights e.old wish t (WithRight t m) was e.may.arrives.empty refl refl (names_place wish p m flights e.may.asks (new_flight p, led, refl)) in
      subst (Sound allowed) (sym step.after) (record {
        counted = counted_led (λ k. hands k (set w.connections i d)) p s.counted (λ k. omega (arith, hands_set w.connections i e.old d e.here k, ap (rights_in k) e.may.arrives.empty, ap (same k) last));
        tabled = tabled_led w.table step.table w.flights p m s.tabled step.leads;
        good = All-set (IsGood flights) w.connections i d good (all_still w.flights flights w.connections grows s.good);
        allows = allowed_led allowed w.flights p s.allows;
      })

  wanted_keeps : (w' : World) (i : ℕ) → Wants i w w' → Sound allowed w'
  wanted_keeps w' i e = elim e.1.wanted [ inl step ↦ joined_keeps w' i e.0 e.1 step | inr step ↦ led_keeps w' i e.0 e.1 step ]

  job_put_keeps : (w' : World) (i : ℕ) → PutsJob i w w' → Sound allowed w'
  job_put_keeps w' i e =
      let d : Connection = record e.old { hand = WithTicket e.ticket } in
      let good = handed_good w.flights e.old e.ticket e.number (All_at (IsGood w.flights) w.connections i e.old s.good e.here) e.held in
      subst (Sound allowed) (sym e.after) (record {
        counted = counted_moved (λ k. hands k (set w.connections i d)) (λ k. jobs k (w.jobs ++ e.number ∷ [])) s.counted (λ k. omega (arith, hands_set w.connections i e.old d e.here k, ap (rights_in k) e.held, sum_push (same k) w.jobs e.number));
        tabled = s.tabled;
        good = All-set (IsGood w.flights) w.connections i d good s.good;
        allows = s.allows;
      })

  job_taken_keeps : (w' : World) (v : ℕ) → TakesJob v w w' → Sound allowed w'
  job_taken_keeps w' v e =
      let x = e.flight in
      let y : Flight = record x { taken = x.taken + 1 } in
      let workers = set w.workers v (Filling e.number) in
      let grows = grows_set w.flights e.number x y e.led refl (λ a brought. brought) in
      let moved_l : (k : ℕ) → landers k workers ≡ landers k w.workers = λ k. omega (arith, sum_set (landing k) w.workers v Idle (Filling e.number) e.idle) in
      subst (Sound allowed) (sym e.after) (record {
        counted = counted_same_l (λ k. landers k workers) moved_l
            (counted_taken e.number x e.led (λ k. jobs k e.rest) (λ k. fillers k workers) s.counted
            (λ k. ap (jobs k) e.first ∙ sum_by-cons (same k) e.number e.rest)
            (λ k. omega (arith, sum_set (filling k) w.workers v Idle (Filling e.number) e.idle)));
        tabled = tabled_kept w.table w.flights e.number x y s.tabled e.led refl refl;
        good = all_still w.flights (set w.flights e.number y) w.connections grows s.good;
        allows = allowed_kept allowed w.flights e.number x y s.allows (λ a brought. s.allows e.number x a e.led brought);
      })

  outcome_set_keeps : (w' : World) (v : ℕ) (outcome : Outcome) → SetsAs allowed outcome v w w' → Sound allowed w'
  outcome_set_keeps w' v outcome e =
      let x = e.flight in
      let n = e.number in
      let y : Flight = record x { outcome = outcome; spent = true; sets = x.sets + 1 } in
      let workers = set w.workers v (Landing n) in
      let out : (k : ℕ) → fillers k workers + same k n ≡ fillers k w.workers = λ k. omega (arith, sum_set (filling k) w.workers v (Filling n) (Landing n) e.held) in
      let come : (k : ℕ) → landers k workers ≡ landers k w.workers + same k n = λ k. omega (arith, sum_set (landing k) w.workers v (Filling n) (Landing n) e.held) in
      let unset : outcomes x.outcome ≡ 0 = unset_while_filling n x e.led s.counted (omega (arith, out n, same_self n n refl)) in
      let grows = grows_set w.flights n x y e.led refl (λ a brought. absurd (omega (arith, unset, ap outcomes brought))) in
      subst (Sound allowed) (sym e.after) (record {
        counted = counted_set n x e.led (λ k. fillers k workers) (λ k. landers k workers) outcome (one_outcome allowed x.place outcome e.brought) s.counted out come;
        tabled = tabled_kept w.table w.flights n x y s.tabled e.led refl refl;
        good = all_still w.flights (set w.flights n y) w.connections grows s.good;
        allows = allowed_kept allowed w.flights n x y s.allows (λ a is. subst (MayBring allowed x.place) is e.brought);
      })

  landed_keeps : (w' : World) (v : ℕ) → LandsFlight v w w' → Sound allowed w'
  landed_keeps w' v e =
      let x = e.flight in
      let n = e.number in
      let y : Flight = record x { landed = x.landed + 1 } in
      let workers = set w.workers v Idle in
      let out : (k : ℕ) → landers k workers + same k n ≡ landers k w.workers = λ k. omega (arith, sum_set (landing k) w.workers v (Landing n) Idle e.held) in
      let keep : (k : ℕ) → fillers k workers ≡ fillers k w.workers = λ k. omega (arith, sum_set (filling k) w.workers v (Landing n) Idle e.held) in
      let open_x : x.landed ≡ 0 = open_while_landing n x e.led s.counted (omega (arith, out n, same_self n n refl)) in
      let grows = grows_set w.flights n x y e.led refl (λ a brought. brought) in
      subst (Sound allowed) (sym e.after) (record {
        counted = counted_same_f (λ k. fillers k workers) keep (counted_landed n x e.led (λ k. landers k workers) s.counted out);
        tabled = tabled_landed w.table e.table w.flights n x s.tabled e.led open_x e.lands;
        good = all_still w.flights (set w.flights n y) w.connections grows s.good;
        allows = allowed_kept allowed w.flights n x y s.allows (λ a brought. s.allows n x a e.led brought);
      })

  -- the right in the hand stays as a ticket goes into the lane, is taken, or is answered
  put_rights : (c d : Connection) → PutsTicket c d → (m : ℕ) → rights_in m d.hand ≡ rights_in m c.hand
  put_rights c d puts m =
      elim puts [
        | inl step ↦ ap (λ (x : Connection). rights_in m x.hand) step.after ∙ sym (ap (rights_in m) step.held)
        | inr some ↦ ap (λ (x : Connection). rights_in m x.hand) some.1.after
      ]

  taken_by_hand : (c d : Connection) (t : Ticket) (named : Option ℕ) → TakesBy named c t d → d.hand ≡ c.hand
  taken_by_hand c d t (Some m) is = ap (λ (x : Connection). x.hand) is
  taken_by_hand c d t None (inl is) = ap (λ (x : Connection). x.hand) is
  taken_by_hand c d t None (inr is) = ap (λ (x : Connection). x.hand) is

  taken_as_hand : (c d : Connection) (t : Ticket) (ended : Bool) → TakesAs ended c t d → d.hand ≡ c.hand
  taken_as_hand c d t true is = ap (λ (x : Connection). x.hand) is
  taken_as_hand c d t false step = taken_by_hand c d t t.flight step.1

  taken_rights : (c d : Connection) → TakesTicket c d → (m : ℕ) → rights_in m d.hand ≡ rights_in m c.hand
  taken_rights c d step m = ap (rights_in m) (taken_as_hand (record c { lane = step.rest }) d step.ticket c.ended step.takes)

  replied_hand : (c d : Connection) (rest : List Ticket) (t : Ticket) (o : Outcome) → RepliesBy o c rest t d → d.hand ≡ c.hand
  replied_hand c d rest t Unset is = absurd is
  replied_hand c d rest t (Answered a) (inl is) = ap (λ (x : Connection). x.hand) is
  replied_hand c d rest t (Answered a) (inr is) = ap (λ (x : Connection). x.hand) is
  replied_hand c d rest t NoMemory is = ap (λ (x : Connection). x.hand) is

  seen_rights : (c d : Connection) → SeesOutcome w.flights c d → (m : ℕ) → rights_in m d.hand ≡ rights_in m c.hand
  seen_rights c d step m = ap (rights_in m) (replied_hand c d (step.before ++ step.behind) step.ticket step.flight.outcome step.replies)

  goes_on_keeps : (Step : Connection → Connection → Type 0) (w' : World) (i : ℕ) → ((c d : Connection) → IsGood w.flights c → Step c d → IsGood w.flights d) → ((c d : Connection) → Step c d → (m : ℕ) → rights_in m d.hand ≡ rights_in m c.hand) → GoesOn Step i w w' → Sound allowed w'
  goes_on_keeps Step w' i keeps same_rights e =
      subst (Sound allowed) (sym e.after) (turned allowed w i e.old e.new s e.here (keeps e.old e.new (All_at (IsGood w.flights) w.connections i e.old s.good e.here) e.step) (same_rights e.old e.new e.step))

  -- every event keeps the world sound
  pub event_keeps : (e : Event) (w' : World) → Happens allowed w e w' → Sound allowed w'
  event_keeps (Want i) w' e = wanted_keeps w' i e
  event_keeps (JobPut i) w' e = job_put_keeps w' i e
  event_keeps (LanePut i) w' e = goes_on_keeps PutsTicket w' i (put_good w.flights) put_rights e
  event_keeps (JobTaken v) w' e = job_taken_keeps w' v e
  event_keeps (OutcomeSet v) w' e = outcome_set_keeps w' v e.0 e.1
  event_keeps (Landed v) w' e = landed_keeps w' v e
  event_keeps (OutcomeSeen i) w' e = goes_on_keeps (SeesOutcome w.flights) w' i (seen_good w.flights) seen_rights e
  event_keeps (LaneTaken i) w' e = goes_on_keeps TakesTicket w' i (taken_good w.flights) taken_rights e
