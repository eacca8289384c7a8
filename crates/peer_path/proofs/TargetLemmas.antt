-- The path of a target of the absolute form, and of a target of neither form.
use Rattle.std.proofs.Common.{◌≡◌, ℕ, true, false, List, ◌∷◌, length, take, drop, map, nat_eq, Some, None, codes, sym, refl, ap, ◌∙◌}
use Rattle.std.specs.Char.{to_ascii_lowercase}
use Rattle.std.specs.List.{starts_with, after_first}
use Rattle.std.proofs.lemmas.List.{take-map}
use Rattle.std.proofs.lemmas.Slice.Eq.{bytes_eq-Decides}
use Rattle.memchr.specs.Find.{is_byte}
use Rattle.peer_path.specs.Places.{slash, http, path_of}
use Rattle.peer_path.proofs.Searches.{false_from_not}

-- the first bytes of the target in lower case
lowered_front : (target scheme : List ℕ) → scheme ≡ take (length http) target
    → take (length http) (map to_ascii_lowercase target) ≡ map to_ascii_lowercase scheme
lowered_front target scheme front = take-map to_ascii_lowercase (length http) target ∙ ap (map to_ascii_lowercase) (sym front)

-- a target of the absolute form has the path that begins behind its authority
pub path_of-absolute : (target scheme rest path : List ℕ) → starts_with nat_eq target (codes "/") ≡ false
    → scheme ≡ take (length http) target → rest ≡ drop (length http) target → map to_ascii_lowercase scheme ≡ http
    → path ≡ slash ∷ after_first (is_byte slash) rest → Some path ≡ path_of target
path_of-absolute target scheme rest path not_origin front back same is =
    let absolute : starts_with nat_eq (map to_ascii_lowercase target) http ≡ true =
    (bytes_eq-Decides http _).1 (sym (lowered_front target scheme front ∙ same)) in
    rw (not_origin, absolute) (ap Some (is ∙ ap (λ r. slash ∷ after_first (is_byte slash) r) back))

-- a target of neither form has no path
pub path_of-other : (target scheme : List ℕ) → starts_with nat_eq target (codes "/") ≡ false → scheme ≡ take (length http) target
    → ¬ (map to_ascii_lowercase scheme ≡ http) → None ≡ path_of target
path_of-other target scheme not_origin front other =
    let not_absolute : starts_with nat_eq (map to_ascii_lowercase target) http ≡ false =
    false_from_not _ (λ absolute. other (sym ((bytes_eq-Decides http _).0 absolute ∙ lowered_front target scheme front))) in
    rw (not_origin, not_absolute) refl
