use Rattle.std.proofs.Common.{◌∙◌, ◌≡◌, ℕ, List, true, false, take, drop, ap, subst, nat_eq}
use Rattle.std.specs.Cow.{cow_slice_items}
use Rattle.std.specs.Cmp.Lexicographic.{pointwise}
use Rattle.peer_path.specs.Places.{base_path}
use Rattle.peer_path.proofs.PlaceLemmas.{place_below_base-base, place_below_base-other, split_key-found, split_key-absent, parts_at}
use Rattle.peer_path.proofs.place.Place.of_path.Goals as goal

pub returns-in_default-clause-fault : goal.returns-in_default-clause-fault
returns-in_default-clause-fault c =
    place_below_base-other (cow_slice_items c.args.path)
    (subst (λ (l : List ℕ). pointwise nat_eq (take 13 l) base_path ≡ false) c.as_slice.ensures.value c.in_default.ensures.cases)

pub returns-in_default-memchr-clause-fault : goal.returns-in_default-memchr-clause-fault
returns-in_default-memchr-clause-fault c =
    let path = cow_slice_items c.args.path in
    let begins : pointwise nat_eq (take 13 path) base_path ≡ true =
    subst (λ (l : List ℕ). pointwise nat_eq (take 13 l) base_path ≡ true) c.as_slice.ensures.value c.in-Some.ensures.cases.0 in
    let behind : c.in-Some.rest.now ≡ drop 13 path = c.in-Some.ensures.cases.1 ∙ ap (drop 13) c.as_slice.ensures.value in
    place_below_base-base path c.in-Some.rest.now begins behind ∙ split_key-absent c.in-Some.rest.now c.in_default-memchr.ensures

pub returns-clause-place : goal.returns-clause-place
returns-clause-place c =
    let path = cow_slice_items c.args.path in
    let begins : pointwise nat_eq (take 13 path) base_path ≡ true =
    subst (λ (l : List ℕ). pointwise nat_eq (take 13 l) base_path ≡ true) c.as_slice.ensures.value c.in-Some.ensures.cases.0 in
    let behind : c.in-Some.rest.now ≡ drop 13 path = c.in-Some.ensures.cases.1 ∙ ap (drop 13) c.as_slice.ensures.value in
    place_below_base-base path c.in-Some.rest.now begins behind
    ∙ split_key-found c.in-Some.rest.now c.in-Some-memchr.at c.in-Some-memchr.ensures
    ∙ parts_at path c.in-Some.rest.now c.in-Some-memchr.at behind
