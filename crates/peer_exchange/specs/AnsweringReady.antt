-- What an exchange answered: the first tickets that waited, and those among them that were refilled.
use Rattle.std.specs.Prelude.{◌≡◌, ◌≤◌, ℕ, ◌+◌, ◌^◌, ◌⊎◌, min, length, true, cond, List, [], ◌∷◌, ◌++◌, Result, Ok, Err, OnOk}
use Rattle.std.specs.VecDeque.{deque_len}
use Rattle.peer_fill.specs.declared.counts.AskCounts.{AskCounts}
use Rattle.peer_wish.specs.declared.ticket.Ticket.{Ticket}
use Rattle.peer_wish.specs.Strangers.{flights_in, flights_in_body}
use Rattle.peer_exchange.specs.Answering.{waits_on_flight}
use Rattle.peer_exchange.specs.Intakes.{IsGivenUpFor}
use Rattle.peer_reply.specs.Joins.{join}
use Rattle.peer_exchange.specs.Windows.{window_after, window_behind}
use Rattle.peer_exchange.specs.ExchangeStates.{has_much_output, unsent}
use Rattle.peer_exchange.specs.declared.outgoing.Answered.{Answered}
use Rattle.peer_exchange.specs.declared.outgoing.Answered.TheVariants as answered
use Rattle.peer_exchange.specs.declared.exchange_state.ExchangeState.{ExchangeState}
use Rattle.peer_exchange.specs.declared.intake.GivenUp.{GivenUp}

-- so many strangers more, up to the most that a seat counts
abbrev pub CountsRefilled : ℕ → AskCounts → AskCounts → Type 0
CountsRefilled n old new = new ≡ record old { strangers = min (old.strangers + n) (2 ^ 56) }

module _ {S : Type 0} where
  -- no ticket waits, or nothing is put until output was sent, or the first ticket waits on a flight
  abbrev pub IsAnsweredThrough : ExchangeState S → Type 0
  IsAnsweredThrough e = (e.waiting.items ≡ []) ⊎ (has_much_output e ≡ true)
      ⊎ ((t : Ticket S) × (ts : List (Ticket S)) × (e.waiting.items ≡ t ∷ ts) × (waits_on_flight t.body ≡ true))

  -- the first ticket was answered by this reply, by whose length as many tickets may wait, and so many strangers counted
  pub record AnswersTicket (strangers : ℕ) (old new : ExchangeState S) (asks asks' : AskCounts) : Type 0 where
    pub ticket : Ticket S
    pub taken : old.waiting.items ≡ ticket ∷ new.waiting.items
    pub len : deque_len old.waiting ≡ deque_len new.waiting + 1
    pub flight : strangers ≤ flights_in_body ticket.body
    pub counted : CountsRefilled strangers asks asks'
    pub reply : List ℕ
    pub put : unsent new ≡ unsent old ++ reply
    pub window : new.window.tickets ≡ window_after (length reply) old.window.tickets

  -- the first ticket was answered, and a stranger counted exactly where it was refilled; or it waits, or it was given up
  abbrev pub AnswersFirst : ExchangeState S → ExchangeState S → AskCounts → AskCounts → Result Answered GivenUp → Type 0
  AnswersFirst old new asks asks' (Ok (answered.Put refilled)) =
      AnswersTicket (cond refilled 1 0) old new asks asks' × (new.intake.stage ≡ old.intake.stage)
  AnswersFirst old new asks asks' (Ok answered.Waits) = (new.waiting.items ≡ old.waiting.items) × (asks' ≡ asks)
      × (new.intake.stage ≡ old.intake.stage) × IsAnsweredThrough new
      × (unsent new ≡ unsent old) × (new.window.tickets ≡ old.window.tickets)
  AnswersFirst old new asks asks' (Err why) = (asks' ≡ asks) × IsGivenUpFor new.intake.stage why

  -- these tickets were answered, which were the first that waited; the others wait, unless it was given up, and behind these
  -- replies as many may wait as their lengths say. No more strangers were counted than tickets of flights were answered
  pub record AnswersReady {T E : Type 0} (old new : ExchangeState S) (asks asks' : AskCounts) (result : Result T E) : Type 0 where
    pub answered : List (Ticket S)
    pub left : List (Ticket S)
    pub first : old.waiting.items ≡ answered ++ left
    pub wait : OnOk result (new.waiting.items ≡ left)
    pub strangers : ℕ
    pub flights : strangers ≤ flights_in answered
    pub counted : CountsRefilled strangers asks asks'
    pub replies : List (List ℕ)
    pub one_each : length replies ≡ length answered
    pub put : OnOk result (unsent new ≡ unsent old ++ join replies)
    pub window : OnOk result (new.window.tickets ≡ window_behind replies old.window.tickets)
