-- Caches in the places of their groups.
use Rattle.std.proofs.Common.{◌≡◌, ℕ, ◌<◌, Some, get_or, refl, List, [], ◌∷◌, ◌++◌, length, ap, sym, ◌∙◌, inl, inr}
use Rattle.peer_source.specs.Caches.{Cache}
use Rattle.std.proofs.Math.ListN.{set}
use Rattle.std.specs.List.{slice_get}
use Rattle.std.proofs.lemmas.Option.{slice_get_read}
use Rattle.peer_flight.proofs.ListSteps.{at_push, at_set}
use Rattle.peer_fill.specs.Caches.{EachInPlace}

-- a cache whose group is the next number goes to the end
pub in_place_push : (xs : List Cache) (y : Cache) → EachInPlace xs → y.group ≡ length xs → EachInPlace (xs ++ y ∷ [])
in_place_push xs y each own = record {
  in_place = λ i x is.
      elim (at_push xs y x i is) [
        | inl both ↦ ap (λ (c : Cache). c.group) both.1 ∙ own ∙ sym both.0
        | inr there ↦ each.in_place i x there
      ];
}

-- a cache takes the place of another one of its group
pub in_place_set : (xs : List Cache) (n : ℕ) (old y : Cache) → EachInPlace xs → old ≡ get_or xs n old → n < length xs
    → y.group ≡ old.group → EachInPlace (set xs n y)
in_place_set xs n old y each is within same =
    let here : slice_get xs n ≡ Some old = slice_get_read xs (length xs) n old refl within is in
    record {
      in_place = λ i x is_at.
          elim (at_set xs n i y x is_at) [
            | inl both ↦ ap (λ (c : Cache). c.group) both.1 ∙ same ∙ each.in_place n old here ∙ sym both.0
            | inr both ↦ each.in_place i x both.1
          ];
    }
