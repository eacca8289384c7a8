-- Names of groups as values of labels, in Prometheus' text format 0.0.4, whose values are UTF-8.
use Rattle.std.specs.Prelude.{ℕ, ◌/◌, ◌%◌, Bool, List, [], ◌∷◌, ◌++◌, codes, cond, nat_lt, ◌==◌, ◌||◌, flat_map}
use Rattle.std.specs.Char.{digit_char}
use Rattle.std.specs.Str.{is_utf8}

-- a byte in two hexadecimal digits
abbrev pub hex_text : ℕ → List ℕ
hex_text byte = digit_char (byte / 16) ∷ digit_char (byte % 16) ∷ []

-- a byte of a name, which is UTF-8 or not: a backslash, a double quote and a newline are escaped, and a byte above 7F of a
-- name that is no UTF-8 is told by its digits
abbrev pub byte_text : Bool → ℕ → List ℕ
byte_text is_text byte =
    cond (byte == 92) (codes "\\\\") (cond (byte == 34) (codes "\\\"") (cond (byte == 10) (codes "\\n")
    (cond (is_text || nat_lt byte 128) (byte ∷ []) (codes "\\\\x" ++ hex_text byte))))

-- a name
abbrev pub label_text : List ℕ → List ℕ
label_text name = flat_map (byte_text (is_utf8 name)) name
