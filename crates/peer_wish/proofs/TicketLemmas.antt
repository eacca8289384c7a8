-- Laws of the wishes and the flights of tickets.
use Rattle.std.proofs.Common.{◌≡◌, ◌+◌, List, [], ◌∷◌, ◌++◌, Some, refl, sym, ap, arith}
use Rattle.peer_source.specs.Answers.{Filled}
use Rattle.peer_flight.specs.SingleFlight.{place_of}
use Rattle.peer_wish.specs.declared.ticket.Ticket.{Ticket}
use Rattle.peer_reply.specs.declared.wish.Wish.{Wish}
use Rattle.peer_wish.specs.Tickets.{wish_by, wishes_by, asks_in}
use Rattle.peer_wish.specs.Strangers.{flights_in}

pub wishes-append : {S : Type 0} (ts us : List (Ticket S)) → wishes_by (ts ++ us) ≡ wishes_by ts ++ wishes_by us
wishes-append [] us = refl
wishes-append (t ∷ ts) us = ap (λ v. wish_by t ∷ v) (wishes-append ts us)

pub asks_in-append : (ws vs : List Wish) → asks_in (ws ++ vs) ≡ asks_in ws + asks_in vs
asks_in-append [] vs = omega arith
asks_in-append (w ∷ ws) vs = omega (arith, asks_in-append ws vs)

pub flights-append : {S : Type 0} (ts us : List (Ticket S)) → flights_in (ts ++ us) ≡ flights_in ts + flights_in us
flights-append [] us = omega arith
flights-append (t ∷ ts) us = omega (arith, flights-append ts us)

-- the fill of a claim that is ready is its own
pub own_of_ready : (f fill : Filled) → Some fill ≡ Some f → place_of f.group f.key ≡ place_of fill.group fill.key
own_of_ready f fill same =
    let e : fill ≡ f = cc in
    ap (λ v. place_of v.group v.key) (sym e)
