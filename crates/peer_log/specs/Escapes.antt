-- Bytes as a line has them: those that are not kept are told by a percent sign and two digits, as in a URL.
use Rattle.std.specs.Prelude.{ℕ, ◌+◌, ◌-◌, ◌/◌, ◌%◌, Bool, List, [], ◌∷◌, cond, nat_lt, nat_le, ◌==◌, ◌&&◌, ◌||◌, not, flat_map}
use Rattle.peer_log.specs.declared.escape.Escapes.{Escapes}
use Rattle.peer_log.specs.declared.escape.Escapes.TheVariants as the

-- the hexadecimal digit of a number, in capitals
abbrev pub upper_digit : ℕ → ℕ
upper_digit n = cond (nat_lt n 10) (48 + n) (65 + (n - 10))

-- whether a byte can be seen, and stands for itself alone: no percent sign, double quote or backslash
abbrev pub is_seen : ℕ → Bool
is_seen b = nat_lt 32 b && nat_lt b 127 && not (b == 37) && not (b == 34) && not (b == 92)

-- whether a byte stands for itself anywhere in a URL (RFC 3986, section 2.3)
abbrev pub is_unreserved : ℕ → Bool
is_unreserved b =
    (nat_le 97 b && nat_le b 122) || (nat_le 65 b && nat_le b 90) || (nat_le 48 b && nat_le b 57)
    || b == 45 || b == 46 || b == 95 || b == 126

-- whether a byte is kept as it is
abbrev pub is_kept : Escapes → ℕ → Bool
is_kept the.Url b = is_unreserved b
is_kept the.Word b = is_seen b
is_kept the.Sentence b = b == 32 || is_seen b

-- a byte
abbrev pub escaped_byte : Escapes → ℕ → List ℕ
escaped_byte e b = cond (is_kept e b) (b ∷ []) (37 ∷ upper_digit (b / 16) ∷ upper_digit (b % 16) ∷ [])

-- a text
abbrev pub escaped_text : Escapes → List ℕ → List ℕ
escaped_text e text = flat_map (escaped_byte e) text
