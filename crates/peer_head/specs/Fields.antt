-- The fields that a server reads before it answers: what they are called, their values, and the
-- elements of a value that is a list (RFC 9110, sections 5.1 and 5.6.1).
use Rattle.std.specs.Prelude.{ℕ, ◌==◌, Bool, nat_lt, ◌&&◌, List, length, map, filter, codes}
use Rattle.std.specs.List.{list_all, list_any, slice_split}
use Rattle.std.specs.Char.{is_ascii_digit}
use Rattle.std.specs.Str.{str_eq_ignore_ascii_case}
use Rattle.httparse.specs.Ascii.{comma, digit_zero}
use Rattle.httparse.specs.Grammar.{trim_ows}
use Rattle.peer_head.specs.Heads.{HeadField}

-- names are the same without regard to case in ASCII
abbrev pub is_named : List ℕ → HeadField → Bool
is_named name f = str_eq_ignore_ascii_case f.name name

-- the values of the fields of that name, in order
abbrev pub values : List ℕ → List HeadField → List (List ℕ)
values name fields = map (λ f. f.value) (filter (is_named name) fields)

-- one or more digits
abbrev pub is_digits : List ℕ → Bool
is_digits value = nat_lt 0 (length value) && list_all is_ascii_digit value

-- digits that are all 0
abbrev pub is_zero : List ℕ → Bool
is_zero value = list_all (λ b. b == digit_zero) value

-- an element of a list, with the white space around it, is close
abbrev pub is_close : List ℕ → Bool
is_close element = str_eq_ignore_ascii_case (trim_ows element) (codes "close")

-- an element of the list, which is cut at its commas, is close
abbrev pub asks_close : List ℕ → Bool
asks_close value = list_any is_close (slice_split (λ b. b == comma) value)
