-- The body of a value: a protobuf message with the value as its first field (`GetResponse` of `groupcache.proto`).
use Rattle.std.specs.Prelude.{ℕ, ◌+◌, ◌/◌, ◌%◌, cond, nat_lt, List, [], ◌∷◌, ◌++◌, length}

-- the shortest base 128 varint of a number below 2^21, the lowest seven bits first
abbrev pub varint : ℕ → List ℕ
varint n =
    cond (nat_lt n 128) (n ∷ [])
    (cond (nat_lt n 16384) ((128 + n % 128) ∷ (n / 128) ∷ []) ((128 + n % 128) ∷ (128 + (n / 128) % 128) ∷ (n / 16384) ∷ []))

-- the tag of field 1 with a length, and the length
abbrev pub tag_and_length : ℕ → List ℕ
tag_and_length n = 10 ∷ varint n

abbrev pub body_of : List ℕ → List ℕ
body_of value = tag_and_length (length value) ++ value
