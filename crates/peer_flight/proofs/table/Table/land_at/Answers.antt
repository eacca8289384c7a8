use Rattle.std.proofs.Common.{◌≡◌, Some, None, ap, sym, ◌∙◌, refl, inl, inr}
use Rattle.std.proofs.lemmas.Option.{none-some}
use Rattle.std.specs.HashMap.{get}
use Rattle.peer_flight.specs.SingleFlight.{place_eq}
use Rattle.peer_flight.proofs.EntryNumbers.{number_at, at_place, at_other, entry_at, entry_else, entry_cases}
use Rattle.peer_flight.proofs.PlaceCases.{cases_place}
use Rattle.peer_flight.proofs.table.Table.land_at.Goals as goal

pub returns-then-number : goal.returns-then-number
returns-then-number g c =
    let place = c.args.place.now in
    let old = get place_eq c.args.self.now.flights in
    let new = get place_eq c.remove-landed.new.self in
    let updates = c.remove-landed.ensures.updates.0 in
    let there : old place ≡ Some c.in-Some.found.now = sym c.in-Some.ensures.value in
    let number : c.in-Some.found.now.number ≡ c.args.number = sym c.number.ensures ∙ c.if-number.true in
    record {
      lands = record {
        number = refl;
        found = λ is. at_place old new place None updates;
        kept = λ no. absurd (no (ap number_at there ∙ ap Some number));
        others = λ q differ. at_other old new place None updates q differ;
      };
      kept = λ q. elim (cases_place q place) [
        | inl same ↦ inl (ap new same ∙ entry_at old new place None updates)
        | inr differ ↦ inr (entry_else old new place None updates q differ)
      ];
    }

pub invariant_of-self-clause-each : goal.invariant_of-self-clause-each
invariant_of-self-clause-each g c p x is =
    let old = get place_eq c.args.self.now.flights in
    let new = get place_eq c.remove-landed.new.self in
    elim (entry_cases old new c.args.place.now None c.remove-landed.ensures.updates.0 p x is) [
      | inl both ↦ absurd (none-some x both.1)
      | inr there ↦ c.args.self.now.each p x there
    ]
