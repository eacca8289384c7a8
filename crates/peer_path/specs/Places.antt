-- The place that a request target names: a group and a key, or the first reason why it names none.
-- RFC 9112, section 3.2; RFC 3986, section 2.1; groupcache `http.go`, `ServeHTTP`.
use Rattle.std.specs.Prelude.{ℕ, ◌+◌, Bool, false, ◌&&◌, List, ◌∷◌, length, drop, map, slice_index, nat_eq, codes}
use Rattle.std.specs.Prelude.{Option, Some, None, Result, Ok, Err, if◌then◌else◌}
use Rattle.std.specs.Char.{to_ascii_lowercase}
use Rattle.std.specs.List.{starts_with, before_first, after_first, list_any, list_all}
use Rattle.std.specs.Option.{option_map_or}
use Rattle.memchr.specs.Find.{is_byte, places}
use Rattle.percent_encoding.specs.Percent.{percent_sign, is_escape, percent_decode}

-- a group and a key of it, as bytes
pub record PlaceParts : Type 0 where
  pub group : List ℕ
  pub key : List ℕ

-- why a target names no place: it has no path, a `%` of its path begins no escape, the decoded path is not below the
-- base path, or no `/` ends the group
pub data Refusal : Type 0 where
  Target : Refusal
  Escape : Refusal
  Outside : Refusal
  NoKey : Refusal

-- `?`
abbrev pub question_mark : ℕ
question_mark = 63

-- `/`
abbrev pub slash : ℕ
slash = 47

-- the beginning of an absolute form of `http`, in lower case
abbrev pub http : List ℕ
http = codes "http://"

-- the base path of groupcache (`http.go`: `defaultBasePath`)
abbrev pub base_path : List ℕ
base_path = codes "/_groupcache/"

-- the target without its query, which begins at the first `?` (RFC 9112, section 3.2.1)
abbrev pub before_query : List ℕ → List ℕ
before_query target = before_first (is_byte question_mark) target

-- the path of a target without a query: an origin form is its own path (RFC 9112, section 3.2.1);
-- an absolute form of `http` has the path that begins with the first `/` behind its authority, or `/` alone (section 3.2.2)
abbrev pub path_of : List ℕ → Option (List ℕ)
path_of target =
    if starts_with nat_eq target (codes "/") then Some target
    else (if starts_with nat_eq (map to_ascii_lowercase target) http then Some
    (slash ∷ after_first (is_byte slash) (drop (length http) target))
    else None)

-- place k of the path has `%` and two hexadecimal digits of either case (RFC 3986, section 2.1)
abbrev pub is_escape_at : List ℕ → ℕ → Bool
is_escape_at path k = is_escape (slice_index path k) (slice_index path (k + 1)) (slice_index path (k + 2))

-- each `%` of the path begins an escape
abbrev pub has_good_escapes : List ℕ → Bool
has_good_escapes path = list_all (is_escape_at path) (places (is_byte percent_sign) path)

-- what is left of a path behind the base path is split at its first `/` (`http.go`: `strings.SplitN(.., "/", 2)`)
abbrev pub split_key : List ℕ → Result PlaceParts Refusal
split_key rest =
    if list_any (is_byte slash) rest
    then Ok (record { group = before_first (is_byte slash) rest; key = after_first (is_byte slash) rest })
    else Err NoKey

-- a decoded path begins with the base path, which is removed
abbrev pub place_below_base : List ℕ → Result PlaceParts Refusal
place_below_base path =
    if starts_with nat_eq path base_path then split_key (drop (length base_path) path) else Err Outside

-- a path whose escapes are good is decoded once
abbrev pub place_at : List ℕ → Result PlaceParts Refusal
place_at path = if has_good_escapes path then place_below_base (percent_decode path) else Err Escape

-- the place that a request target names
abbrev pub place_of : List ℕ → Result PlaceParts Refusal
place_of target = option_map_or place_at (path_of (before_query target)) (Err Target)

-- the path has an escape, and each of its escapes is good
abbrev pub is_to_decode : List ℕ → Bool
is_to_decode path = list_any (is_byte percent_sign) path && has_good_escapes path

-- the target has a path that is to be decoded, which takes memory
abbrev pub needs_memory : List ℕ → Bool
needs_memory target = option_map_or is_to_decode (path_of (before_query target)) false
