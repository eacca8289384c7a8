-- Laws of the strangers that a connection counts.
use Rattle.std.proofs.Common.{◌≡◌, inl, inr, ℕ, ◌+◌, ◌^◌, ◌<◌, ◌≤◌, List, [], ◌∷◌, ◌++◌, Some, None, min, refl, ap, arith}
use Rattle.peer_source.specs.Answers.{Filled}
use Rattle.peer_fill.specs.Asks.{CountsAsk, hit_count}
use Rattle.peer_fill.specs.declared.counts.AskCounts.{AskCounts}
use Rattle.peer_flight.specs.Claims.{Looked}
use Rattle.peer_flight.specs.declared.claim.Claim.{Claim}
use Rattle.peer_flight.specs.declared.claim.Claim.TheVariants as claim
use Rattle.peer_wish.specs.declared.ticket.Ticket.{Ticket}
use Rattle.peer_wish.specs.Strangers.{flight_count, flights_in, flights_in_body}
use Rattle.peer_wish.proofs.TicketLemmas.{flights-append, own_of_ready}
use Rattle.peer_conn.specs.Strangers.{CountsAmong, CountsFew, CountsFill, Rises, flights_of}
use Rattle.peer_conn.specs.declared.end.WriterState.{WriterState}

-- a claim that is ready is no flight
hit_or_flight : {S : Type 0} (c : Claim S) → hit_count c + flight_count c ≡ 1
hit_or_flight (claim.Ready fill) = refl
hit_or_flight (claim.Pending flight) = refl

-- an ask led or joined a flight where its claim is one
pub flights_of_ask : {S : Type 0} {c : Claim S} {old new : AskCounts} → CountsAsk c old new → flights_of new ≡ flights_of old + flight_count c
flights_of_ask {S} {c} h = omega (arith, h.flights, hit_or_flight c)

pub rises_none : {n a b : ℕ} → b ≡ a → Rises n a b
rises_none e = record { least = omega (arith, e); most = omega (arith, e) }

-- what is counted where this fill came for a claim
pub counts_fill : {S : Type 0} {a b : ℕ} (c : Claim S) (fill : Filled) (state : WriterState) → a < 2 ^ 64 → Looked c None (Some fill) (Some fill) → CountsFill c fill state a b → Rises (flight_count c) a b
counts_fill c fill state fits came (inl h) = rises_none h.1
counts_fill (claim.Ready f) fill state fits came (inr (inl h)) = absurd (h.0 (own_of_ready f fill came))
counts_fill (claim.Pending flight) fill state fits came (inr (inl h)) = record { least = omega (arith, h.1, fits); most = omega (arith, h.1) }
counts_fill c fill state fits came (inr (inr h)) = rises_none h.1

-- no ticket more
pub counts_same : {S : Type 0} {ts us : List (Ticket S)} {a b : ℕ} → us ≡ ts → b ≡ a → CountsAmong ts us a b
counts_same same e = let n = ap flights_in same in record { least = omega (arith, e); most = omega (arith, e, n) }

-- one ticket more
pub counts_one : {S : Type 0} {ts us : List (Ticket S)} {a b : ℕ} (t : Ticket S) → us ≡ ts ++ t ∷ [] → Rises (flights_in_body t.body) a b → CountsAmong ts us a b
counts_one {S} {ts} {us} {a} {b} t taken h = let n = ap flights_in taken in record { least = h.least; most = omega (arith, h.most, n, flights-append ts (t ∷ [])) }

pub counts_then : {S : Type 0} {ts us vs : List (Ticket S)} {a b c : ℕ} → CountsAmong ts us a b → CountsAmong us vs b c → CountsAmong ts vs a c
counts_then h k = record { least = omega (arith, h.least, k.least); most = omega (arith, h.most, k.most) }

-- what a seat counts of the strangers of a writer, which began with none
pub seat_counts : {S : Type 0} {ts us : List (Ticket S)} {n n' : ℕ} (a b c : AskCounts) → n ≡ 0 → ts ≡ [] → CountsAmong ts us n n' → b.strangers ≡ a.strangers →
    flights_of b ≡ flights_of a + flights_in us → a.strangers ≤ 2 ^ 56 → c ≡ record b { strangers = min (b.strangers + n') (2 ^ 56) } → CountsFew a c
seat_counts {S} {ts} {us} {n} {n'} a b c none empty h same flights most is =
    let strangers : c.strangers ≡ min (b.strangers + n') (2 ^ 56) = ap (λ q. q.strangers) is in
    let led : c.led ≡ b.led = ap (λ q. q.led) is in
    let joined : c.joined ≡ b.joined = ap (λ q. q.joined) is in
    let nothing : flights_in ts ≡ 0 = ap flights_in empty in
    record { least = omega (arith, same, most, strangers); most = omega (arith, none, nothing, h.most, same, flights, strangers, led, joined) }
