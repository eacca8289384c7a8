use Rattle.std.proofs.Common.{◌≡◌, Some, ap, sym, ◌∙◌, refl, inl, inr, arith}
use Rattle.std.proofs.lemmas.Option.{same_Some}
use Rattle.std.specs.HashMap.{get}
use Rattle.peer_flight.specs.SingleFlight.{place_eq}
use Rattle.peer_flight.specs.Flights.{FlightId}
use Rattle.peer_flight.proofs.EntryNumbers.{number_at, at_place, at_other, entry_at, entry_else, entry_cases}
use Rattle.peer_flight.proofs.table.Table.lead.Goals as goal

pub invariant_of-self-2-clause-each : goal.invariant_of-self-2-clause-each
invariant_of-self-2-clause-each g c p x is =
    let old = get place_eq c.args.self.now.flights in
    let new = get place_eq c.insert.new.self in
    elim (entry_cases old new c.args.place (Some c.in_ok-flight.share) c.in-Ok.ensures.updates.0 p x is) [
      | inl both ↦
          let share : x ≡ c.in_ok-flight.flight = sym (same_Some c.in_ok-flight.share x both.1) ∙ c.in_ok-flight.ensures.share in
          let number : x.number ≡ c.args.self.now.next = ap (λ (f : FlightId). f.number) share ∙ c.in_ok-flight.ensures.number in
          (ap (λ (f : FlightId). f.place) share ∙ c.in_ok-flight.ensures.place ∙ sym both.0, omega (arith, number))
      | inr there ↦ let was = c.args.self.now.each p x there in (was.0, omega (arith, was.1))
    ]

pub returns-clause-leads : goal.returns-clause-leads
returns-clause-leads g c none =
    let old = get place_eq c.args.self.now.flights in
    let new = get place_eq c.insert.new.self in
    let share = Some c.in_ok-flight.share in
    let updates = c.in-Ok.ensures.updates.0 in
    record {
      none = ap number_at none;
      number = c.in_ok-flight.ensures.number;
      next = refl;
      live = at_place old new c.args.place share updates ∙ ap (λ (f : FlightId). Some f.number) c.in_ok-flight.ensures.share;
      others = at_other old new c.args.place share updates;
    }

pub returns-clause-stands : goal.returns-clause-stands
returns-clause-stands g c =
    let old = get place_eq c.args.self.now.flights in
    let new = get place_eq c.insert.new.self in
    entry_at old new c.args.place (Some c.in_ok-flight.share) c.in-Ok.ensures.updates.0 ∙ ap Some c.in_ok-flight.ensures.share

pub returns-clause-others : goal.returns-clause-others
returns-clause-others g c =
    let old = get place_eq c.args.self.now.flights in
    let new = get place_eq c.insert.new.self in
    entry_else old new c.args.place (Some c.in_ok-flight.share) c.in-Ok.ensures.updates.0
