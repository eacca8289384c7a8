-- How a connection goes on, and what stays true of it as flights go on.
use Rattle.std.proofs.Common.{◌≡◌, ℕ, ◌≤◌, Bool, true, false, List, [], ◌∷◌, ◌++◌, length, map, Option, Some, None, refl, ap, sym, subst, ◌∙◌, inl, inr, arith, length-append, append_assoc}
use Rattle.std.proofs.Math.ListN.{set}
use Rattle.std.proofs.lemmas.List.{append-nil, map-append}
use Rattle.std.proofs.lemmas.List.Elements.{All-push, All-same, All-weaker}
use Rattle.std.proofs.lemmas.Option.{none-some, same_Some}
use Rattle.std.proofs.lemmas.Bool.{true≢false, cases_eq}
use Rattle.std.specs.List.{slice_get, All}
use Rattle.peer_source.specs.Answers.{Answer}
use Rattle.peer_flight.specs.World.{Wish, Ticket, Outcome, Unset, Answered, NoMemory, Flight, Hand, Empty, WithTicket, WithRight, Written, Connection, in_hand, tickets_of}
use Rattle.peer_flight.specs.Events.{ready, with_wish, PutsTicket, answered, RepliesBy, SeesOutcome, TakesBy, TakesAs, TakesTicket}
use Rattle.peer_flight.specs.Laws.{IsFlight, NamesItsPlace, IsAnswered}
use Rattle.peer_flight.proofs.ListSteps.{set_here, set_else, push_keeps}
use Rattle.peer_flight.proofs.Sound.{IsGood}

-- every flight is still there with its place, and with its answer if it had one
abbrev pub Grows : List Flight → List Flight → Type 0
Grows flights flights' = (m : ℕ) (f : Flight) → IsFlight flights m f → (f' : Flight) × IsFlight flights' m f' × (f'.place ≡ f.place) × ((a : Answer) → f.outcome ≡ Answered a → f'.outcome ≡ Answered a)

pub grows_push : (flights : List Flight) (x : Flight) → Grows flights (flights ++ x ∷ [])
grows_push flights x m f is = (f, push_keeps flights (x ∷ []) f m is, refl, λ a e. e)

pub grows_set : (flights : List Flight) (n : ℕ) (x y : Flight) → IsFlight flights n x → y.place ≡ x.place → ((a : Answer) → x.outcome ≡ Answered a → y.outcome ≡ Answered a) → Grows flights (set flights n y)
grows_set flights n x y led place answer m f is =
    elim (cases_eq m n) [
      | inl same ↦
          let as_x : f ≡ x = same_Some f x (sym is ∙ ap (slice_get flights) same ∙ led) in
          (y, ap (slice_get (set flights n y)) same ∙ set_here flights n x y led, place ∙ ap (λ (g : Flight). g.place) (sym as_x), λ a brought. answer a (ap (λ (g : Flight). g.outcome) (sym as_x) ∙ brought))
      | inr differ ↦ (f, set_else flights n m y differ ∙ is, refl, λ a e. e)
    ]

-- a ticket names its place still
pub names_still : (flights flights' : List Flight) (t : Ticket) → Grows flights flights' → NamesItsPlace flights t → NamesItsPlace flights' t
names_still flights flights' t grows names m is =
    let there = names m is in
    let now = grows m there.0 there.1 in
    (now.0, now.1, there.2 ∙ ap Some (sym now.2))

-- a reply follows its outcome still
pub answered_still : (flights flights' : List Flight) (x : Written) → Grows flights flights' → IsAnswered flights x → IsAnswered flights' x
answered_still flights flights' x grows follows m is =
    let there = follows m is in
    let now = grows m there.0 there.2 in
    (now.0, there.1, now.1, now.3 there.1 there.3, there.4)

pub good_still : (flights flights' : List Flight) (c : Connection) → Grows flights flights' → IsGood flights c → IsGood flights' c
good_still flights flights' c grows good = record {
  tickets = All-weaker (NamesItsPlace flights) (NamesItsPlace flights') (λ t names. names_still flights flights' t grows names) (tickets_of c) good.tickets;
  order = good.order;
  written = All-weaker (IsAnswered flights) (IsAnswered flights') (λ x follows. answered_still flights flights' x grows follows) c.written good.written;
  one = good.one;
}

-- a connection whose tickets are the same ones stays good
same_tickets : (flights : List Flight) (c d : Connection) → IsGood flights c → tickets_of d ≡ tickets_of c → d.arrived ≡ c.arrived → All (IsAnswered flights) d.written → (d.ended ≡ false → length d.waiting ≤ 1) → IsGood flights d
same_tickets flights c d good same arrived written one = record {
  tickets = All-same (NamesItsPlace flights) (tickets_of d) (tickets_of c) same good.tickets;
  order = ap (map (λ (t : Ticket). t.wish)) same ∙ good.order ∙ sym arrived;
  written = written;
  one = one;
}

-- a connection with one ticket more, of the wish that arrived, stays good
one_ticket : (flights : List Flight) (c d : Connection) (t : Ticket) → IsGood flights c → tickets_of d ≡ tickets_of c ++ t ∷ [] → d.arrived ≡ c.arrived ++ t.wish ∷ [] → NamesItsPlace flights t → d.written ≡ c.written → d.waiting ≡ c.waiting → d.ended ≡ c.ended → IsGood flights d
one_ticket flights c d t good more arrived names written waiting ended = record {
  tickets = All-same (NamesItsPlace flights) (tickets_of d) (tickets_of c ++ t ∷ []) more (All-push (NamesItsPlace flights) (tickets_of c) t good.tickets names);
  order = ap (map (λ (x : Ticket). x.wish)) more ∙ map-append (λ (x : Ticket). x.wish) (tickets_of c) (t ∷ []) ∙ ap (λ ws. ws ++ t.wish ∷ []) good.order ∙ sym arrived;
  written = All-same (IsAnswered flights) d.written c.written written good.written;
  one = λ goes_on. omega (arith, good.one (sym ended ∙ goes_on), ap (λ (ts : List Ticket). length ts) waiting);
}

-- the tickets of a connection, part by part
abbrev line : List Ticket → List Ticket → List Ticket → List Ticket → List Ticket
line a w l h = a ++ w ++ l ++ h

-- the tickets of the replies, with one more
answered_push : (xs : List Written) (x : Written) → map (λ (y : Written). y.ticket) (xs ++ x ∷ []) ≡ map (λ (y : Written). y.ticket) xs ++ x.ticket ∷ []
answered_push xs x = map-append (λ (y : Written). y.ticket) xs (x ∷ [])

-- a ready ticket names no flight
ready_names : (flights : List Flight) (wish : Wish) → NamesItsPlace flights (ready wish)
ready_names flights wish m is = absurd (none-some m is)

-- a wish arrives, and its ticket comes into the empty hand
pub wanted_good : (flights : List Flight) (c : Connection) (wish : Wish) (t : Ticket) (hand : Hand) → IsGood flights c → c.hand ≡ Empty → in_hand hand ≡ t ∷ [] → t.wish ≡ wish → NamesItsPlace flights t → IsGood flights (with_wish c wish hand)
wanted_good flights c wish t hand good empty holds of names =
    let a = map (λ (y : Written). y.ticket) c.written in
    let more : tickets_of (with_wish c wish hand) ≡ tickets_of c ++ t ∷ [] =
    ap (line a c.waiting c.lane) holds ∙ ap (λ (y : List Ticket). y ++ t ∷ []) (sym (append-nil (a ++ c.waiting ++ c.lane)) ∙ ap (λ h. line a c.waiting c.lane (in_hand h)) (sym empty)) in
    one_ticket flights c (with_wish c wish hand) t good more (ap (λ w. c.arrived ++ w ∷ []) (sym of)) names refl refl refl

-- the right beside a ticket goes
pub handed_good : (flights : List Flight) (c : Connection) (t : Ticket) (m : ℕ) → IsGood flights c → c.hand ≡ WithRight t m → IsGood flights (record c { hand = WithTicket t })
handed_good flights c t m good held =
    let a = map (λ (y : Written). y.ticket) c.written in
    same_tickets flights c (record c { hand = WithTicket t }) good (ap (λ h. line a c.waiting c.lane (in_hand h)) (sym held)) refl good.written good.one

-- a ticket goes into the lane
pub put_good : (flights : List Flight) (c d : Connection) → IsGood flights c → PutsTicket c d → IsGood flights d
put_good flights c d good puts =
    let a = map (λ (y : Written). y.ticket) c.written in
    elim puts [
      | inl step ↦
          let t = step.ticket in
          let e : Connection = record c { hand = Empty; lane = c.lane ++ t ∷ [] } in
          let parts : line a c.waiting (c.lane ++ t ∷ []) [] ≡ line a c.waiting c.lane (t ∷ []) = simp (append_assoc, append-nil) in
          subst (IsGood flights) (sym step.after) (same_tickets flights c e good (parts ∙ ap (λ h. line a c.waiting c.lane (in_hand h)) (sym step.held)) refl good.written good.one)
      | inr some ↦
          let wish = some.0 in
          let step = some.1 in
          let t = ready wish in
          let e : Connection = record c { arrived = c.arrived ++ wish ∷ []; lane = c.lane ++ t ∷ [] } in
          let parts : line a c.waiting (c.lane ++ t ∷ []) [] ≡ line a c.waiting c.lane [] ++ t ∷ [] = simp (append_assoc, append-nil) in
          let more : tickets_of e ≡ tickets_of c ++ t ∷ [] =
          ap (λ h. line a c.waiting (c.lane ++ t ∷ []) (in_hand h)) step.arrives.empty ∙ parts ∙ ap (λ h. line a c.waiting c.lane (in_hand h) ++ t ∷ []) (sym step.arrives.empty) in
          subst (IsGood flights) (sym step.after) (one_ticket flights c e t good more refl (ready_names flights wish) refl refl refl)
    ]

module _ (flights : List Flight) (c : Connection) (good : IsGood flights c) where
  -- a ticket is answered that was the only one taken
  answered_good : (d : Connection) (t : Ticket) (rest lane : List Ticket) (answer : Option Answer) → tickets_of c ≡ line (map (λ (y : Written). y.ticket) c.written) (t ∷ []) lane (in_hand c.hand) → rest ≡ [] → IsAnswered flights (record { ticket = t; answer = answer }) → d ≡ answered (record c { lane = lane }) rest t answer → IsGood flights d
  answered_good d t rest lane answer are none follows is =
      let a = map (λ (y : Written). y.ticket) c.written in
      let h = in_hand c.hand in
      let x : Written = record { ticket = t; answer = answer } in
      let e : Connection = answered (record c { lane = lane }) rest t answer in
      let parts : line (a ++ t ∷ []) [] lane h ≡ line a (t ∷ []) lane h = simp (append_assoc, append-nil) in
      let same : tickets_of e ≡ tickets_of c =
      ap (λ b. line b rest lane h) (answered_push c.written x) ∙ ap (λ w. line (a ++ t ∷ []) w lane h) none ∙ parts ∙ sym are in
      subst (IsGood flights) (sym is) (same_tickets flights c e good same refl (All-push (IsAnswered flights) c.written x good.written follows) (λ on. omega (arith, ap (λ (ts : List Ticket). length ts) none)))

  -- a ticket is taken, and waits
  waits_good : (d : Connection) (t : Ticket) (lane waiting : List Ticket) (ended : Bool) → c.lane ≡ t ∷ lane → waiting ≡ c.waiting ++ t ∷ [] → (ended ≡ false → length waiting ≤ 1) → d ≡ record c { lane = lane; waiting = waiting; ended = ended } → IsGood flights d
  waits_good d t lane waiting ended first more one is =
      let a = map (λ (y : Written). y.ticket) c.written in
      let h = in_hand c.hand in
      let e : Connection = record c { lane = lane; waiting = waiting; ended = ended } in
      let parts : line a (c.waiting ++ t ∷ []) lane h ≡ line a c.waiting (t ∷ lane) h = simp append_assoc in
      let same : tickets_of e ≡ tickets_of c = ap (λ w. line a w lane h) more ∙ parts ∙ ap (λ l. line a c.waiting l h) (sym first) in
      subst (IsGood flights) (sym is) (same_tickets flights c e good same refl good.written one)

  -- a writer that goes on takes a ticket
  taken_by : (d : Connection) (t : Ticket) (lane : List Ticket) (named : Option ℕ) → c.lane ≡ t ∷ lane → c.ended ≡ false → c.waiting ≡ [] → t.flight ≡ named → TakesBy named (record c { lane = lane }) t d → IsGood flights d
  taken_by d t lane (Some m) first on none names is = waits_good d t lane (t ∷ []) c.ended first (ap (λ w. w ++ t ∷ []) (sym none)) (λ goes_on. omega arith) is
  taken_by d t lane None first on none names (inr is) = waits_good d t lane (t ∷ []) true first (ap (λ w. w ++ t ∷ []) (sym none)) (λ goes_on. omega arith) is
  taken_by d t lane None first on none names (inl is) =
      let a = map (λ (y : Written). y.ticket) c.written in
      let h = in_hand c.hand in
      let parts : line a [] (t ∷ lane) h ≡ line a (t ∷ []) lane h = simp (append_assoc, append-nil) in
      let are : tickets_of c ≡ line a (t ∷ []) lane h = ap (λ l. line a c.waiting l h) first ∙ ap (λ w. line a w (t ∷ lane) h) none ∙ parts in
      answered_good d t [] lane None are refl (λ m is_m. absurd (none-some m (sym names ∙ is_m))) is

  -- a writer takes a ticket
  taken_as : (d : Connection) (t : Ticket) (lane : List Ticket) (ended : Bool) → c.lane ≡ t ∷ lane → c.ended ≡ ended → TakesAs ended (record c { lane = lane }) t d → IsGood flights d
  taken_as d t lane true first ended is = waits_good d t lane (c.waiting ++ t ∷ []) c.ended first refl (λ on. absurd (true≢false (sym ended ∙ on))) is
  taken_as d t lane false first ended step = taken_by d t lane t.flight first ended step.0 refl step.1

-- the lane's first ticket is taken
pub taken_good : (flights : List Flight) (c d : Connection) → IsGood flights c → TakesTicket c d → IsGood flights d
taken_good flights c d good step = taken_as flights c good d step.ticket step.rest c.ended step.first refl step.takes

-- a list of one element at most that has one has no other
alone : (before behind : List Ticket) (t : Ticket) → length (before ++ t ∷ behind) ≤ 1 → (before ≡ []) × (behind ≡ [])
alone [] [] t few = (refl, refl)
alone [] (y ∷ ys) t few = absurd (omega arith)
alone (x ∷ xs) behind t few = absurd (omega (arith, length-append xs (t ∷ behind)))

-- a writer that ends keeps its tickets
ends_good : (flights : List Flight) (c d : Connection) → IsGood flights c → d ≡ record c { ended = true } → IsGood flights d
ends_good flights c d good is =
    subst (IsGood flights) (sym is) (same_tickets flights c (record c { ended = true }) good refl refl good.written (λ on. absurd (true≢false on)))

-- a reply is written by the outcome of the ticket's flight
replied_good : (flights : List Flight) (c d : Connection) (s : SeesOutcome flights c d) (o : Outcome) → IsGood flights c → s.flight.outcome ≡ o → RepliesBy o c (s.before ++ s.behind) s.ticket d → IsGood flights d
replied_good flights c d s Unset good brought is = absurd is
replied_good flights c d s NoMemory good brought is = ends_good flights c d good is
replied_good flights c d s (Answered answer) good brought (inr is) = ends_good flights c d good is
replied_good flights c d s (Answered answer) good brought (inl is) =
    let t = s.ticket in
    let few : length (s.before ++ t ∷ s.behind) ≤ 1 = omega (arith, good.one s.goes_on, ap (λ (ts : List Ticket). length ts) s.taken) in
    let only = alone s.before s.behind t few in
    let none : s.before ++ s.behind ≡ [] = ap (λ b. b ++ s.behind) only.0 ∙ only.1 in
    let one : s.before ++ t ∷ s.behind ≡ t ∷ [] = ap (λ b. b ++ t ∷ s.behind) only.0 ∙ ap (λ (ts : List Ticket). t ∷ ts) only.1 in
    let are : tickets_of c ≡ line (map (λ (y : Written). y.ticket) c.written) (t ∷ []) c.lane (in_hand c.hand) =
    ap (λ w. line (map (λ (y : Written). y.ticket) c.written) w c.lane (in_hand c.hand)) (s.taken ∙ one) in
    let follows : IsAnswered flights (record { ticket = t; answer = Some answer }) = λ k is_k.
    let same_number : s.number ≡ k = same_Some s.number k (sym s.names ∙ is_k) in
    (s.flight, answer, ap (slice_get flights) (sym same_number) ∙ s.led, brought, refl) in
    answered_good flights c good d t (s.before ++ s.behind) c.lane (Some answer) are none follows is

-- the outcome of a ticket's flight is seen
pub seen_good : (flights : List Flight) (c d : Connection) → IsGood flights c → SeesOutcome flights c d → IsGood flights d
seen_good flights c d good step = replied_good flights c d step step.flight.outcome good refl step.replies
