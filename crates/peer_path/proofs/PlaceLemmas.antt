-- The parts of a decoded path, by the places that the code finds.
use Rattle.std.proofs.Common.{◌≡◌, ℕ, ◌+◌, true, false, List, length, take, drop, nat_eq, Some, None, Result}
use Rattle.std.proofs.Common.{Ok, Err, ◌-◌, sym, refl, ap, ◌∙◌, arith}
use Rattle.std.specs.List.{starts_with}
use Rattle.std.proofs.lemmas.Bool.{false≢true}
use Rattle.std.proofs.lemmas.List.{drop-drop}
use Rattle.std.proofs.lemmas.Slice.Eq.{bytes_eq-Decides}
use Rattle.memchr.specs.Find.{IsFirstByte, is_byte}
use Rattle.std.specs.Cmp.Lexicographic.{pointwise}
use Rattle.peer_path.specs.Places.{PlaceParts, Refusal, Outside, NoKey, slash, base_path, split_key, place_below_base}
use Rattle.peer_path.proofs.Searches.{false_from_not, position_or_len-found, list_any-found, list_any-absent}

-- a path that begins with the base path leads where what is left of it leads
pub place_below_base-base : (path rest : List ℕ) → pointwise nat_eq (take (length base_path) path) base_path ≡ true
    → rest ≡ drop (length base_path) path → place_below_base path ≡ split_key rest
place_below_base-base path rest begins behind =
    let starts : starts_with nat_eq path base_path ≡ true =
    (bytes_eq-Decides base_path _).1 (sym ((bytes_eq-Decides (take (length base_path) path) base_path).0 begins)) in
    rw starts (ap split_key (sym behind))

-- a path that begins otherwise leads nowhere
pub place_below_base-other : (path : List ℕ) → pointwise nat_eq (take (length base_path) path) base_path ≡ false
    → place_below_base path ≡ Err Outside
place_below_base-other path differs =
    let begins_not : starts_with nat_eq path base_path ≡ false =
    false_from_not _ (λ begins. false≢true (sym differs
    ∙ (bytes_eq-Decides (take (length base_path) path) base_path).1 (sym ((bytes_eq-Decides base_path _).0 begins)))) in
    rw begins_not refl

-- a place of these two parts
abbrev parts_of : List ℕ → List ℕ → Result PlaceParts Refusal
parts_of g k = Ok (record { group = g; key = k })

-- the first `/` of what is left parts group and key
pub split_key-found : (rest : List ℕ) (k : ℕ) → IsFirstByte (is_byte slash) rest (Some k)
    → split_key rest ≡ parts_of (take k rest) (drop (k + 1) rest)
split_key-found rest k found = rw (list_any-found (is_byte slash) rest k found, position_or_len-found (is_byte slash) rest k found) refl

-- with no `/` left there is no key
pub split_key-absent : (rest : List ℕ) → IsFirstByte (is_byte slash) rest None → split_key rest ≡ Err NoKey
split_key-absent rest absent = rw (list_any-absent (is_byte slash) rest absent) refl

-- the parts as a place keeps them: by the index of that `/` in the whole path
pub parts_at : (path rest : List ℕ) (k : ℕ) → rest ≡ drop 13 path
    → parts_of (take k rest) (drop (k + 1) rest) ≡ parts_of (take (13 + k - 13) (drop 13 path)) (drop (13 + k + 1) path)
parts_at path rest k behind =
    let back : 13 + k - 13 ≡ k = omega arith in
    let ahead : 13 + (k + 1) ≡ 13 + k + 1 = omega arith in
    let group : take k rest ≡ take (13 + k - 13) (drop 13 path) = ap (take k) behind ∙ ap (λ n. take n (drop 13 path)) (sym back) in
    let key : drop (k + 1) rest ≡ drop (13 + k + 1) path =
    ap (drop (k + 1)) behind ∙ drop-drop (k + 1) 13 path ∙ ap (λ n. drop n path) ahead in
    ap (λ g. parts_of g (drop (k + 1) rest)) group ∙ ap (λ r. parts_of (take (13 + k - 13) (drop 13 path)) r) key
