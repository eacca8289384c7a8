use Rattle.std.proofs.Common.{◌≡◌, ◌∙◌, ◌++◌, ◌∷◌, [], ℕ, List, Some, ap, sym, subst, inl, inr}
use Rattle.peer_flight.specs.SingleFlight.{Place, place_of, State, Joins, Leads}
use Rattle.peer_flight.specs.World.{Wish, Connection, WithTicket, WithRight, new_flight}
use Rattle.peer_flight.specs.Flights.{FlightId}
use Rattle.peer_flight.specs.Tables.{Gives, state_of}
use Rattle.peer_flight.specs.declared.table.Ask.{Ask}
use Rattle.peer_flight.specs.declared.table.Ask.TheVariants.{Led, Joined}
use Rattle.flight_world.proofs.connection.Connection.want.Goals as goal

-- what an ask gave, at the place that has this group and key
module _ {S : Type 0} (s s' : State) (ask : Ask S) (p : Place) (group : ℕ) (key : List ℕ) where
  joins_at : (flight : FlightId) → group ≡ p.group → key ≡ p.key → ask ≡ Joined flight → Gives ask s s' (place_of group key)
      → Joins s s' p flight.number
  joins_at flight in_group at_key is gives =
      subst (λ q. Joins s s' q flight.number) (λ i. record { group = in_group i; key = at_key i })
      (subst (λ (x : Ask S). Gives x s s' (place_of group key)) is gives).0

  leads_at : (flight right : FlightId) → group ≡ p.group → key ≡ p.key → ask ≡ Led flight right → Gives ask s s' (place_of group key)
      → Leads s s' p flight.number × (flight.place ≡ p)
  leads_at flight right in_group at_key is gives =
      let led = subst (λ (x : Ask S). Gives x s s' (place_of group key)) is gives in
      let at : place_of group key ≡ p = λ i. record { group = in_group i; key = at_key i } in
      (subst (λ q. Leads s s' q flight.number) at led.0, led.1 ∙ at)

pub returns-in-Joined-clause-wanted : goal.returns-in-Joined-clause-wanted
returns-in-Joined-clause-wanted g c =
    let joined = joins_at (state_of c.args.table.now) (state_of c.want.new.self) _ c.in-Some.place _ _ _ c.group.ensures c.key.ensures c.in-Joined.is c.in_ok-flight.ensures.gives in
    let is = c.self.view_is in
    let arrived = c.push_reserved.ensures.items ∙ (λ i. c.in_ok-reserve.ensures.items i ++ c.in_ok-share.ensures i ∷ []) in
    record {
      may = record { arrives = c.may_arrive.ensures.0 c.if-not-may_arrive.false; place = c.in-Some.place; asks = sym (ap (λ (w : Wish). w.place) c.wish.view_is) ∙ c.in-Some.is };
      number = c.in-Joined.flight.number;
      wanted = inl (
        joined,
        c.in_ok-reserve-2.ensures.items,
        c.hold.ensures ∙ (λ i. record {
          arrived = (arrived ∙ ap (λ (x : Connection). x.arrived ++ c.args.wish ∷ []) is) i;
          hand = WithTicket (record { wish = c.args.wish; flight = Some (c.number.ensures i) });
          lane = (is i).lane;
          waiting = (is i).waiting;
          written = (is i).written;
          ended = (is i).ended;
        }),
      );
    }

pub returns-in-Led-clause-wanted : goal.returns-in-Led-clause-wanted
returns-in-Led-clause-wanted g c =
    let led = leads_at (state_of c.args.table.now) (state_of c.want.new.self) _ c.in-Some.place _ _ _ _ c.group.ensures c.key.ensures c.in-Led.is c.in_ok-flight.ensures.gives in
    let n = c.number-number.ensures in
    let is = c.self.view_is in
    let arrived = c.push_reserved-in-Led-2.ensures.items ∙ (λ i. c.in_ok-reserve.ensures.items i ++ c.in_ok-share.ensures i ∷ []) in
    record {
      may = record { arrives = c.may_arrive.ensures.0 c.if-not-may_arrive.false; place = c.in-Some.place; asks = sym (ap (λ (w : Wish). w.place) c.wish.view_is) ∙ c.in-Some.is };
      number = c.in-Led.flight.number;
      wanted = inr (
        led.0,
        c.push_reserved-in-Led.ensures.items ∙ (λ i. c.in_ok-reserve-2.ensures.items i ++ (c.new.ensures ∙ ap new_flight led.1) i ∷ []),
        c.hold-in-Led.ensures ∙ (λ i. record {
          arrived = (arrived ∙ ap (λ (x : Connection). x.arrived ++ c.args.wish ∷ []) is) i;
          hand = WithRight (record { wish = c.args.wish; flight = Some (n i) }) (n i);
          lane = (is i).lane;
          waiting = (is i).waiting;
          written = (is i).written;
          ended = (is i).ended;
        }),
      );
    }
