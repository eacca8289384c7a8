-- What decoding does to a path, by its first `%`.
use Rattle.std.proofs.Common.{◌≡◌, ℕ, true, false, List, [], ◌∷◌, ◌++◌, length, take, drop, All, Some, None}
use Rattle.std.proofs.Common.{sym, refl, ap, ◌∙◌, arith, append-nil}
use Rattle.std.specs.List.{list_all}
use Rattle.std.proofs.lemmas.Bool.{false≢true, eq-eqb}
use Rattle.std.proofs.lemmas.List.{take-append-drop}
use Rattle.std.proofs.lemmas.List.Elements.{All-head, All-tail}
use Rattle.memchr.specs.Find.{IsFirstByte, is_byte}
use Rattle.memchr.proofs.lemmas.PlaceLemmas.{places_between-none}
use Rattle.percent_encoding.specs.Percent.{percent_sign, percent_decode}
use Rattle.percent_encoding.proofs.PercentLemmas.{percent_decode-nil, percent_decode_not_percent}
use Rattle.peer_path.specs.Places.{is_escape_at, has_good_escapes}
use Rattle.peer_path.proofs.Searches.{All-before_found}

-- the byte is not `%`
abbrev pub IsPlain : ℕ → Type 0
IsPlain b = is_byte percent_sign b ≡ false

-- decoding leaves the bytes before the first `%` as they are
pub percent_decode-plain_front : (front rest : List ℕ) → All IsPlain front → percent_decode (front ++ rest) ≡ front ++ percent_decode rest
percent_decode-plain_front [] rest plain = refl
percent_decode-plain_front (b ∷ front) rest plain =
    let here = All-head IsPlain b front plain in
    percent_decode_not_percent b (front ++ rest) (λ is. false≢true (sym here ∙ eq-eqb b 37 is))
    ∙ ap (λ l. b ∷ l) (percent_decode-plain_front front rest (All-tail IsPlain b front plain))

-- decoding leaves a path without `%` as it is
pub percent_decode-plain : (path : List ℕ) → All IsPlain path → percent_decode path ≡ path
percent_decode-plain path plain =
    ap percent_decode (sym (append-nil path)) ∙ percent_decode-plain_front path [] plain ∙ ap (λ l. path ++ l) percent_decode-nil
    ∙ append-nil path

-- decoding begins at the first `%`
pub percent_decode-found : (path : List ℕ) (k : ℕ) → IsFirstByte (is_byte percent_sign) path (Some k)
    → percent_decode path ≡ take k path ++ percent_decode (drop k path)
percent_decode-found path k found =
    ap percent_decode (sym (take-append-drop k path))
    ∙ percent_decode-plain_front (take k path) (drop k path) (All-before_found (is_byte percent_sign) path k found)

-- a path without `%` has no bad escape
pub has_good_escapes-plain : (path : List ℕ) → IsFirstByte (is_byte percent_sign) path None → has_good_escapes path ≡ true
has_good_escapes-plain path absent =
    ap (list_all (is_escape_at path)) (places_between-none (is_byte percent_sign) path 0 (length path) (omega arith) absent)
