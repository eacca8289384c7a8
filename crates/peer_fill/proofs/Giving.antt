-- What an ask gave has the place that was asked for.
use Rattle.std.proofs.Common.{◌≡◌, sym, ap, ◌∙◌, subst}
use Rattle.peer_flight.specs.Flights.{FlightId}
use Rattle.peer_flight.specs.SingleFlight.{Place, State}
use Rattle.peer_flight.specs.Tables.{Gives}
use Rattle.peer_flight.specs.declared.table.Ask.{Ask}
use Rattle.peer_flight.specs.declared.table.Ask.TheVariants.{Led, Joined}

pub joined_place : {S : Type 0} (ask : Ask S) (s s' : State) (p : Place) (f : FlightId) → ask ≡ Joined f → Gives ask s s' p → f.place ≡ p
joined_place ask s s' p f is gives = (subst (λ (x : Ask _). Gives x s s' p) is gives).1

pub led_place : {S : Type 0} (ask : Ask S) (s s' : State) (p : Place) (f right : FlightId) → ask ≡ Led f right
    → Gives ask s s' p → f.place ≡ p
led_place ask s s' p f right is gives = (subst (λ (x : Ask _). Gives x s s' p) is gives).1

pub led_key : {S : Type 0} (ask : Ask S) (s s' : State) (p : Place) (f right : FlightId) → ask ≡ Led f right → Gives ask s s' p
    → p.key ≡ right.place.key
led_key ask s s' p f right is gives =
    let led = subst (λ (x : Ask _). Gives x s s' p) is gives in
    sym (ap (λ (y : FlightId). y.place.key) led.2 ∙ ap (λ (q : Place). q.key) led.1)
