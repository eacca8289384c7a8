-- Strangers: fills that came of another group or key than was asked for; and the flights, which alone may have one.
use Rattle.std.specs.Prelude.{◌≡◌, ℕ, ◌+◌, List, [], ◌∷◌}
use Rattle.peer_source.specs.Answers.{Filled}
use Rattle.peer_flight.specs.Claims.{claim_place}
use Rattle.peer_flight.specs.SingleFlight.{place_of}
use Rattle.peer_flight.specs.declared.claim.Claim.{Claim}
use Rattle.peer_flight.specs.declared.claim.Claim.TheVariants as claim
use Rattle.peer_wish.specs.declared.ticket.Body.{Body}
use Rattle.peer_wish.specs.declared.ticket.Body.TheVariants as ticket
use Rattle.peer_wish.specs.declared.ticket.Ticket.{Ticket}

module _ {S : Type 0} where
  -- the fill is of the group and key that the claim is of
  abbrev pub IsOwn : Claim S → Filled → Type 0
  IsOwn c fill = claim_place c ≡ place_of fill.group fill.key

  -- 1 where the claim is a flight: only its fill may be a stranger
  abbrev pub flight_count : Claim S → ℕ
  flight_count (claim.Ready fill) = 0
  flight_count (claim.Pending flight) = 1

  abbrev pub flights_in_body : Body S → ℕ
  flights_in_body (ticket.Fault f) = 0
  flights_in_body (ticket.Claim c) = flight_count c

  -- how many of the tickets are of flights
  abbrev pub flights_in : List (Ticket S) → ℕ
  flights_in [] = 0
  flights_in (t ∷ ts) = flights_in_body t.body + flights_in ts
