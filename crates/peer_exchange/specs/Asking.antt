-- What an exchange asked: the tickets that came to wait, and what the seat counted.
use Rattle.std.specs.Prelude.{◌≡◌, ℕ, ◌+◌, Bool, true, false, List, [], ◌∷◌, ◌++◌, Option, Some, None, IsSome, ◌⊎◌, Result, Ok, Err, OnOk}
use Rattle.std.specs.VecDeque.{deque_len}
use Rattle.peer_head.specs.Blocks.{IsFrontLength, IsUnfinished}
use Rattle.peer_flight.specs.declared.table.AskFault.{AskFault}
use Rattle.peer_flight.specs.declared.table.AskFault.TheVariants as ask
use Rattle.peer_fill.specs.declared.counts.AskCounts.{AskCounts}
use Rattle.peer_wish.specs.declared.ticket.Ticket.{Ticket}
use Rattle.peer_reply.specs.declared.wish.WishBody.{WishBody}
use Rattle.peer_wish.specs.Tickets.{asks_in_body, asks_in, wish_by, wishes_by}
use Rattle.peer_wish.specs.Nexts.{IsNextWish}
use Rattle.peer_wish.specs.Wishes.{closes_after}
use Rattle.peer_exchange.specs.Intakes.{IsGivenUpFor, is_open, is_judging, is_given_up}
use Rattle.peer_source.specs.Answers.{Answer}
use Rattle.peer_reply.specs.declared.wish.Wish.{Wish}
use Rattle.peer_exchange.specs.declared.asking.Asked.{Asked}
use Rattle.peer_exchange.specs.declared.asking.Asked.TheVariants as asked
use Rattle.peer_exchange.specs.ExchangeStates.{is_full, Keeps}
use Rattle.peer_exchange.specs.declared.exchange_state.ExchangeState.{ExchangeState}
use Rattle.peer_exchange.specs.declared.intake.GivenUp.{GivenUp}
use Rattle.peer_exchange.specs.declared.intake.GivenUp.TheVariants as given_up

-- why it is given up where an ask is refused
abbrev pub why_of : AskFault → GivenUp
why_of ask.Memory = given_up.Memory
why_of ask.Worn = given_up.Worn

-- so many asks more
pub record CountsAsks (n : ℕ) (old new : AskCounts) : Type 0 where
  pub asked : new.asked ≡ old.asked + n
  pub strangers : new.strangers ≡ old.strangers

-- the asks of a wish, or none where it got no ticket
abbrev pub CountsWish : {T E : Type 0} → WishBody → AskCounts → AskCounts → Result (Option T) E → Type 0
CountsWish body old new (Ok (Some ticket)) = CountsAsks (asks_in_body body) old new
CountsWish body old new (Ok None) = CountsAsks 0 old new
CountsWish body old new (Err fault) = CountsAsks 0 old new

module _ {S : Type 0} where
  -- the ticket of the next wish of the bytes held, which is counted, and the length of its block; or why there is none
  abbrev pub AsksHeld : {J : Type 0} → (List ℕ → Option ℕ) → List ℕ → AskCounts → AskCounts → Option J → Asked S → Type 0
  AsksHeld numbers held asks asks' left (asked.Ticket t len) = IsNextWish numbers held (wish_by t) × IsFrontLength held len
      × CountsAsks (asks_in_body (wish_by t).body) asks asks'
  AsksHeld numbers held asks asks' left asked.Need = IsUnfinished held × CountsAsks 0 asks asks'
  AsksHeld numbers held asks asks' left asked.NotNow = IsSome left × CountsAsks 0 asks asks'
  AsksHeld numbers held asks asks' left (asked.Refused why) = CountsAsks 0 asks asks'

  -- the ticket whose reply closes also where it is the last that a connection gets
  abbrev pub closed_by : ℕ → Ticket S → Ticket S
  closed_by count t = record t { closing = closes_after count t.closing }

  -- this ticket waits behind the others
  pub record Enqueues (ticket : Ticket S) (old new : ExchangeState S) : Type 0 where
    pub put : new.waiting.items ≡ old.waiting.items ++ closed_by old.intake.count ticket ∷ []
    pub len : deque_len new.waiting ≡ deque_len old.waiting + 1
    pub goes_on : is_given_up new.intake.stage ≡ is_given_up old.intake.stage
    pub waits_for_job : new.waits_for_job ≡ old.waits_for_job
    pub window : new.window.tickets ≡ old.window.tickets

  -- where what is held is judged yet, and it may ask, the next request waits since a job is left with the seat, or the
  -- client's end did not come and what is held is unfinished
  abbrev pub IsJudgedThrough : {J : Type 0} → ExchangeState S → Option J → Type 0
  IsJudgedThrough e left = is_judging e.intake.stage ≡ true → is_full e ≡ false →
      (e.waits_for_job ≡ true) × IsSome left ⊎ (e.waits_for_job ≡ false) × (is_open e.intake.stage ≡ true) × IsUnfinished e.intake.held

  -- where what is held begins with this wish, whatever came and was sent still is what came and was sent
  abbrev pub KeepsWhereNext : (ℕ → List ℕ → Answer → Type 0) → Wish → ExchangeState S → ExchangeState S → Type 0
  KeepsWhereNext answers wish old new =
      (numbers : List ℕ → Option ℕ) → IsNextWish numbers old.intake.held wish → Keeps numbers answers old new

  -- this ticket came to wait, and was counted
  pub record AddsTicket (old new : ExchangeState S) (asks asks' : AskCounts) : Type 0 where
    pub ticket : Ticket S
    pub put : new.waiting.items ≡ old.waiting.items ++ ticket ∷ []
    pub len : deque_len new.waiting ≡ deque_len old.waiting + 1
    pub counted : CountsAsks (asks_in_body (wish_by ticket).body) asks asks'

  -- a ticket came to wait of an exchange that was not full, or there is none to ask, or it was given up
  abbrev pub AsksOne : {J : Type 0} → ExchangeState S → ExchangeState S → AskCounts → AskCounts → Option J → Result Bool GivenUp → Type 0
  AsksOne old new asks asks' left (Ok true) = AddsTicket old new asks asks'
      × (is_given_up new.intake.stage ≡ is_given_up old.intake.stage) × (new.waits_for_job ≡ false) × (is_full old ≡ false)
  AsksOne old new asks asks' left (Ok false) = (new.waiting.items ≡ old.waiting.items) × CountsAsks 0 asks asks'
      × (is_given_up new.intake.stage ≡ is_given_up old.intake.stage) × IsJudgedThrough new left
  AsksOne old new asks asks' left (Err why) = CountsAsks 0 asks asks' × IsGivenUpFor new.intake.stage why

  -- these tickets came to wait behind the others, unless it was given up, and those among them that were asked were counted
  pub record AddsTickets {T E : Type 0} (old new : ExchangeState S) (asks asks' : AskCounts) (result : Result T E) : Type 0 where
    pub tickets : List (Ticket S)
    pub put : OnOk result (new.waiting.items ≡ old.waiting.items ++ tickets)
    pub counted : CountsAsks (asks_in (wishes_by tickets)) asks asks'
