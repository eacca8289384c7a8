-- The target of a key: the prefix, and the key with an escape for each byte that is not unreserved (RFC 3986, section 2).
use Rattle.std.specs.Prelude.{ℕ, Bool, ◌||◌, ◌==◌, List, [], ◌∷◌, ◌++◌, if◌then◌else◌}
use Rattle.std.specs.Char.{is_ascii_alphanumeric}
use Rattle.std.specs.List.{flat_map}
use Rattle.percent_encoding.specs.Percent.{percent_encode_byte}

-- a letter, a digit, or one of - . _ ~ (section 2.3)
abbrev pub is_unreserved : ℕ → Bool
is_unreserved b = is_ascii_alphanumeric b || b == 45 || b == 46 || b == 95 || b == 126

-- what a byte of a key becomes: itself, or % and two hexadecimal digits
abbrev pub escaped_byte : ℕ → List ℕ
escaped_byte b = if is_unreserved b then b ∷ [] else percent_encode_byte b

-- the target of a key
abbrev pub target_of : List ℕ → List ℕ → List ℕ
target_of prefix key = prefix ++ flat_map escaped_byte key
