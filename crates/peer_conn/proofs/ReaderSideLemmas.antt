-- Laws of what the reader's side of a connection did.
use Rattle.std.proofs.Common.{◌≡◌, ◌∙◌, ℕ, ◌+◌, List, [], ◌∷◌, ◌++◌, refl, sym, ap, subst, arith, append-nil, append_assoc, Option}
use Rattle.std.specs.declared.sync.ledger.Ledger as Ledger
use Rattle.peer_source.specs.declared.source.Source as Source
use Rattle.peer_view.specs.declared.reader.PeerRead as Read
use Rattle.peer_fill.specs.Pools.{IsConnSeatOf}
use Rattle.peer_fill.specs.Seats.{asks_of, conn_parts}
use Rattle.peer_fill.specs.declared.pool.Pool.{Pool}
use Rattle.peer_fill.specs.declared.seats.ConnSeat.{ConnSeat}
use Rattle.peer_flight.specs.declared.table.AskFault.{AskFault}
use Rattle.peer_lane.specs.Lanes.{IsSameIn, tickets_put}
use Rattle.peer_lane.specs.declared.lane_in.LaneIn.{LaneIn}
use Rattle.peer_wish.specs.declared.ticket.Body.{Body}
use Rattle.peer_wish.specs.declared.ticket.Ticket.{Ticket}
use Rattle.peer_reply.specs.declared.wish.Wish.{Wish}
use Rattle.peer_reply.specs.declared.wish.WishBody.{WishBody}
use Rattle.peer_wish.specs.Tickets.{body_by, wishes_by, asks_in_body}
use Rattle.peer_wish.specs.Strangers.{flights_in, flights_in_body}
use Rattle.peer_wish.proofs.WishLemmas.{first_of}
use Rattle.peer_wish.proofs.TicketLemmas.{asks_in-append, flights-append, wishes-append}
use Rattle.peer_conn.specs.LaneWishes.{wishes_put}
use Rattle.peer_conn.specs.Requests.{Stops, reading_of}
use Rattle.peer_conn.specs.ReaderSides.{PutsTickets}
use Rattle.peer_conn.specs.Strangers.{flights_of}
use Rattle.peer_conn.specs.declared.reader_side.ReaderSide.{ReaderSide}
use Rattle.peer_conn.specs.declared.requests.Requests.{Requests}
use Rattle.peer_conn.specs.declared.end.ReaderStop.{ReaderStop}
use Rattle.peer_conn.specs.declared.end.ReaderStop.TheVariants as stop
use Rattle.peer_conn.proofs.RequestLemmas.{firsts}

module _ {S L : Type 0} {g : Source.Ghosts S} {h : Ledger.Ghosts L} {pool : Pool S L g h} where
  pub puts_none : {seat : ConnSeat S L g} {lane : LaneIn S g} → IsConnSeatOf pool seat → PutsTickets pool seat seat lane lane []
  puts_none {seat} {lane} own = record {
    of_pool = own;
    parts = refl;
    strangers = refl;
    same = ((refl, refl, refl, refl), refl);
    put = sym (append-nil (wishes_put lane));
    asked = omega arith;
    flights = refl;
  }

  pub puts_then : {a b c : ConnSeat S L g} {x y z : LaneIn S g} {ws vs : List Wish} → PutsTickets pool a b x y ws → PutsTickets pool b c y z vs → PutsTickets pool a c x z (ws ++ vs)
  puts_then {a} {b} {c} {x} {y} {z} {ws} {vs} h k = record {
    of_pool = k.of_pool;
    parts = k.parts ∙ h.parts;
    strangers = k.strangers ∙ h.strangers;
    same = ((k.same.0.0 ∙ h.same.0.0, k.same.0.1 ∙ h.same.0.1, k.same.0.2 ∙ h.same.0.2, k.same.0.3 ∙ h.same.0.3), k.same.1 ∙ h.same.1);
    put = k.put ∙ ap (λ v. v ++ vs) h.put ∙ append_assoc (wishes_put x) ws vs;
    asked = omega (arith, h.asked, k.asked, asks_in-append ws vs);
    flights = omega (arith, h.flights, k.flights);
  }

  -- neither the seat nor the lane moved
  pub puts_same : {a b b' : ConnSeat S L g} {x y y' : LaneIn S g} {ws : List Wish} → b' ≡ b → y' ≡ y → PutsTickets pool a b x y ws → PutsTickets pool a b' x y' ws
  puts_same {a} {b} {b'} {x} {y} {y'} {ws} seat lane h = subst (λ s. PutsTickets pool a s x y' ws) (sym seat) (subst (λ l. PutsTickets pool a b x l ws) (sym lane) h)

  -- no ticket more
  pub puts_on : {a b c : ConnSeat S L g} {x y z : LaneIn S g} {ws : List Wish} → PutsTickets pool a b x y ws → PutsTickets pool b c y z [] → PutsTickets pool a c x z ws
  puts_on {a} {b} {c} {x} {y} {z} {ws} h k = subst (PutsTickets pool a c x z) (append-nil ws) (puts_then h k)

  -- one ticket more, behind an ask for its wish where that has group and key
  pub puts_one : {R : Type 0} {k : Read.Ghosts R} {a m : ReaderSide S L R g k} {seat : ConnSeat S L g} {lane : LaneIn S g} (w : Wish) (body : Body S) → m ≡ record a { seat = seat } → IsConnSeatOf pool seat → conn_parts seat ≡ conn_parts a.seat → (asks_of seat).strangers ≡ (asks_of a.seat).strangers → flights_of (asks_of seat) ≡ flights_of (asks_of a.seat) + flights_in_body body →
      (asks_of seat).asked ≡ (asks_of a.seat).asked + asks_in_body w.body → IsSameIn m.lane lane → tickets_put lane ≡ tickets_put m.lane ++ record { closing = w.closing; bare = w.bare; body = body } ∷ [] → body_by body ≡ w.body → PutsTickets pool a.seat m.seat a.lane lane (w ∷ [])
  puts_one {R} {k} {a} {m} {seat} {lane} w body is own parts strangers flights asked same put answers =
      let t : Ticket S = record { closing = w.closing; bare = w.bare; body = body } in
      let P : ReaderSide S L R g k → Type 0 = λ s. IsSameIn s.lane lane → tickets_put lane ≡ tickets_put s.lane ++ t ∷ [] → PutsTickets pool a.seat s.seat a.lane lane (w ∷ []) in
      let wish : WishBody → Wish = λ b. record w { body = b } in
      subst P (sym is) (λ same put. record {
        of_pool = own;
        parts = parts;
        strangers = strangers;
        same = same;
        put = ap wishes_by put ∙ wishes-append (tickets_put a.lane) (t ∷ []) ∙ ap (λ b. wishes_put a.lane ++ wish b ∷ []) answers;
        asked = omega (arith, asked);
        flights = let n = ap flights_in put in omega (arith, flights, flights-append (tickets_put a.lane) (t ∷ []));
      }) same put

-- the last wishes were not put
pub unput : {R : Type 0} {G : Read.Ghosts R} {numbers : List ℕ → Option ℕ} {a b : Requests R G} {c : ReaderStop} (ws vs : List Wish) (fault : AskFault) → Stops numbers a b (ws ++ vs) c → Stops numbers a b ws (stop.Refused fault)
unput {R} {G} {numbers} {a} {b} {c} ws vs fault h =
    let t = a.held.held ++ h.text in
    record { text = h.text; gave = h.gave; calls = h.calls; stops = first_of numbers ws vs a.count t (firsts numbers a.count a.left (reading_of a b) t (ws ++ vs) c h.stops) }
