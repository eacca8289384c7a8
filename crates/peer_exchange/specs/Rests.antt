-- What would let an exchange go on.
use Rattle.std.specs.Prelude.{◌≡◌, ℕ, Option, None, Some, true, false, ◌&&◌, not, ◌==◌, List, [], ◌∷◌, length}
use Rattle.std.specs.VecDeque.{deque_len}
use Rattle.peer_flight.specs.Claims.{claim_place}
use Rattle.peer_flight.specs.declared.claim.Claim.TheVariants.{Pending}
use Rattle.peer_wish.specs.declared.ticket.Body.{Body}
use Rattle.peer_wish.specs.declared.ticket.Body.TheVariants.{Claim}
use Rattle.peer_wish.specs.declared.ticket.Ticket.{Ticket}
use Rattle.peer_exchange.specs.Asking.{IsJudgedThrough}
use Rattle.peer_exchange.specs.ExchangeStates.{takes_bytes, unsent, has_much_output, is_full, is_over}
use Rattle.peer_exchange.specs.declared.exchange_state.ExchangeState.{ExchangeState}
use Rattle.peer_exchange.specs.declared.rest.Rest.{Rest}

-- bytes, where they may come and it may ask; a fill, where a ticket waits and its reply may be put; that output is sent; and that the
-- seat puts the job that is left with it, where the next request waits for that
abbrev pub rest_of : {S : Type 0} → ExchangeState S → Rest
rest_of e = record {
  bytes = takes_bytes e && not (is_full e) && not e.waits_for_job;
  fill = not (deque_len e.waiting == 0) && not (has_much_output e);
  output = not (length (unsent e) == 0);
  job = e.waits_for_job;
}

-- the number of the flight that a ticket's body is of, where it is of one
abbrev pub flight_number : {S : Type 0} → Body S → Option ℕ
flight_number (Claim (Pending flight)) = Some flight.number
flight_number _ = None

-- that of the first ticket
abbrev pub first_flight : {S : Type 0} → List (Ticket S) → Option ℕ
first_flight [] = None
first_flight (t ∷ ts) = flight_number t.body

-- the group that a ticket's body asks for, where it gets a value
abbrev pub group_of : {S : Type 0} → Body S → Option ℕ
group_of (Claim claim) = Some (claim_place claim).group
group_of _ = None

-- that of the first ticket
abbrev pub first_group : {S : Type 0} → List (Ticket S) → Option ℕ
first_group [] = None
first_group (t ∷ ts) = group_of t.body

-- nothing would
abbrev pub no_rest : Rest
no_rest = record { bytes = false; fill = false; output = false; job = false }

-- what is held was judged as far as it can be, with this job left with the seat, and this is what would let it go on: where
-- nothing would, it is over
pub record RestsAt {S J : Type 0} (e : ExchangeState S) (left : Option J) (rest : Rest) : Type 0 where
  pub through : IsJudgedThrough e left
  pub told : rest ≡ rest_of e
  pub over : rest ≡ no_rest → is_over e ≡ true
