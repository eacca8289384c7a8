-- A writer sees an outcome: the events of a connection, from what its code did.
use Rattle.std.proofs.Common.{◌≡◌, ℕ, false, true, List, [], ◌∷◌, ◌++◌, Option, Some, None, refl, ap, sym, subst, ◌∙◌, inl, inr, ◌<◌, length, get_or, arith}
use Rattle.peer_source.specs.Answers.{Answer, Found, Failed, Filled}
use Rattle.peer_source.specs.Outcomes.{answer_of}
use Rattle.peer_source.specs.declared.fill.Outcome.{Outcome}
use Rattle.peer_source.specs.declared.fill.Outcome.TheVariants as source
use Rattle.std.specs.Option.{IfSome}
use Rattle.std.specs.List.{slice_get, slice_set}
use Rattle.peer_flight.specs.SingleFlight.{Place, State}
use Rattle.peer_flight.specs.World.{Wish, Ticket, Flight, Connection, Written, World}
use Rattle.peer_flight.specs.Events.{WantsAs, SeesOutcome, RepliesBy, MayBring}
use Rattle.flight_world.specs.Views.{Brings, WantsAt, outcome_by}

-- a source that had memory gave an answer
pub answer_there : (o : Outcome) → (o ≡ source.NoMemory → ⊥) → (a : Answer) × (answer_of o ≡ Some a)
answer_there (source.Found value) some = (Found value, refl)
answer_there (source.Failed text) some = (Failed text, refl)
answer_there source.NoMemory some = absurd (some refl)

-- the first of a list, and the rest
pub first_of : (ts : List Ticket) (t : Ticket) → 0 < length ts → t ≡ get_or ts 0 t → (rest : List Ticket) × (ts ≡ t ∷ rest)
first_of [] t some is = absurd (omega arith)
first_of (x ∷ xs) t some is = (xs, ap (λ y. y ∷ xs) (sym is))

module _ (flights : List Flight) (c : Connection) (t : Ticket) (rest : List Ticket) (fill : Filled) (on : c.ended ≡ false) (first : c.waiting ≡ t ∷ rest) (brings : Brings flights t fill) where
  -- what the writer does with the first ticket
  seen_so : (new : Connection) → RepliesBy brings.flight.outcome c rest t new → SeesOutcome flights c new
  seen_so new replies = record {
    goes_on = on;
    before = [];
    ticket = t;
    behind = rest;
    taken = first;
    number = brings.number;
    names = brings.names;
    flight = brings.flight;
    led = brings.led;
    replies = replies;
  }

  -- for want of memory the writer ends
  pub end_seen : fill.answer ≡ None → SeesOutcome flights c (record c { ended = true })
  end_seen none = seen_so _ (subst (λ o. RepliesBy o c rest t (record c { ended = true })) (sym (brings.outcome ∙ ap outcome_by none)) refl)

  -- an answer is written
  pub answer_seen : (a : Answer) → fill.answer ≡ Some a → (waiting : List Ticket) (written : List Written) → waiting ≡ rest → written ≡ c.written ++ record { ticket = t; answer = Some a } ∷ [] → SeesOutcome flights c (record c { waiting = waiting; written = written })
  answer_seen a some waiting written left more =
      let new : Connection = record c { waiting = waiting; written = written } in
      seen_so new (subst (λ o. RepliesBy o c rest t new) (sym (brings.outcome ∙ ap outcome_by some)) (inl (λ i. record c { waiting = left i; written = more i })))

-- the same of a connection that is seen as another value
pub end_seen_as : (flights : List Flight) (c seen : Connection) → c ≡ seen → (t : Ticket) (rest : List Ticket) (fill : Filled) → c.ended ≡ false
    → c.waiting ≡ t ∷ rest → Brings flights t fill → fill.answer ≡ None → SeesOutcome flights seen (record c { ended = true })
end_seen_as flights c seen is t rest fill on first brings none =
    subst (λ x. SeesOutcome flights x (record c { ended = true })) is (end_seen flights c t rest fill on first brings none)

-- what a fill answers may be the outcome of a flight of its place
pub may_bring : (allowed : ℕ → List ℕ → Answer → Type 0) (p : Place) (answer : Option Answer) → ∥ IfSome answer (allowed p.group p.key) ∥₁ → MayBring allowed p (outcome_by answer)
may_bring allowed p None law = tt
may_bring allowed p (Some answer) law = law

-- what a connection wanted, the world wanted
pub wants_from : (w : World) (wish : Wish) (c : ℕ) (old new : Connection) (table : State) (flights : List Flight) → slice_get w.connections c ≡ Some old → WantsAt wish w.table table w.flights flights old new → WantsAs wish c w (record w { table = table; flights = flights; connections = slice_set w.connections c new })
wants_from w wish c old new table flights here at = record {
  old = old;
  here = here;
  may = at.may;
  number = at.number;
  wanted =
      elim at.wanted [
        | inl joins ↦ inl (record { table = table; joins = joins.0; after = λ i. record w { table = table; flights = joins.1 i; connections = slice_set w.connections c (joins.2 i) } })
        | inr leads ↦ inr (record { table = table; leads = leads.0; after = λ i. record w { table = table; flights = leads.1 i; connections = slice_set w.connections c (leads.2 i) } })
      ];
}
