use Rattle.std.proofs.Common.{◌∙◌, rules, sym}
use Rattle.std.specs.HashMap.{get, keys}
use Rattle.std.proofs.lemmas.Map.Entries.{length-keys_of}
use Rattle.std.proofs.lemmas.Map.Views.{hash_map_contains_key_iff}
use Rattle.peer_flight.specs.SingleFlight.{place_eq}
use Rattle.peer_flight.proofs.PlaceCases.{place_eq-Decides, place_eq_equivalence}
use Rattle.peer_flight.proofs.EntryNumbers.{number_is_there}
use Rattle.peer_flight.proofs.table.Table.counts.Goals as goal

pub returns-clause-open_flights : goal.returns-clause-open_flights
returns-clause-open_flights g c =
    let flights = c.args.self.now.flights in
    record {
      places = keys flights;
      size = length-keys_of flights.entries ∙ sym c.len.ensures.len;
      once = c.len.ensures.unique;
      each = λ p.
          let there = hash_map_contains_key_iff place_eq_equivalence (λ x y. (place_eq-Decides x y).0) flights p in
          let same = number_is_there (get place_eq flights p) in
          (λ some. there.0 (sym same ∙ some), λ contains. same ∙ there.1 contains);
    }

pub returns-clause-led : goal.returns-clause-led
returns-clause-led g c = search rules
