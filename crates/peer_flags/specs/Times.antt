-- What a text means as a time, in nanoseconds.
use Rattle.std.specs.Prelude.{ℕ, ◌+◌, ◌-◌, ◌*◌, ◌/◌, ◌^◌, Bool, List, length, take, drop, codes, cond, nat_lt, nat_le, ◌==◌, ◌&&◌}
use Rattle.std.specs.Prelude.{◌≤◌, Option, Some, None, option_map, bytes_eq}
use Rattle.std.specs.Duration.{as_nanos}
use Rattle.std.specs.declared.time.Duration.{Duration}
use Rattle.std.specs.List.{list_all, position_or_len, before_first, after_first}
use Rattle.std.specs.Char.{is_ascii_digit}
use Rattle.std.specs.Str.Parse.{digits_value}

-- the number that a text of 1 to `most` digits writes
abbrev pub digits_in : ℕ → List ℕ → Option ℕ
digits_in most text =
    cond (nat_lt 0 (length text) && nat_le (length text) most && list_all is_ascii_digit text) (Some (digits_value 10 text)) None

-- whether a text ends with a name
abbrev pub ends_with : List ℕ → List ℕ → Bool
ends_with name text = bytes_eq (drop (length text - length name) text) name

-- the unit that a text ends with, and how long its name is: milliseconds, seconds or minutes, and seconds with no name
abbrev pub unit_of : List ℕ → ℕ
unit_of text =
    cond (ends_with (codes "ms") text) 1_000_000 (cond (ends_with (codes "s") text) 1_000_000_000
    (cond (ends_with (codes "m") text) 60_000_000_000 1_000_000_000))

abbrev pub name_length : List ℕ → ℕ
name_length text =
    cond (ends_with (codes "ms") text) 2 (cond (ends_with (codes "s") text) 1 (cond (ends_with (codes "m") text) 1 0))

-- what stands before the unit
abbrev pub number_of : List ℕ → List ℕ
number_of text = take (length text - name_length text) text

-- so many units, by up to 8 digits
abbrev pub units : ℕ → List ℕ → Option ℕ
units unit digits = option_map (λ n. n * unit) (digits_in 8 digits)

-- a part of a unit, by up to 3 digits after a point
abbrev pub part_of_unit : ℕ → List ℕ → Option ℕ
part_of_unit unit digits = option_map (λ n. n * unit / 10 ^ length digits) (digits_in 3 digits)

-- the sum of two numbers, if both are there
abbrev pub sum_of : Option ℕ → Option ℕ → Option ℕ
sum_of (Some a) (Some b) = Some (a + b)
sum_of _ _ = None

abbrev pub is_point : ℕ → Bool
is_point b = b == 46

-- the nanoseconds that a text means: digits, a point and further digits if there is a part of a unit, and the unit
abbrev pub nanos_of : List ℕ → Option ℕ
nanos_of text =
    let after = after_first is_point text in
    cond (nat_lt (position_or_len is_point text) (length text))
    (sum_of (units (unit_of after) (before_first is_point text)) (part_of_unit (unit_of after) (number_of after)))
    (units (unit_of text) (number_of text))

-- a number, if it is one of these
abbrev pub within : ℕ → ℕ → Option ℕ → Option ℕ
within least most None = None
within least most (Some n) = cond (nat_le least n && nat_le n most) (Some n) None

-- from a millisecond to an hour
abbrev pub IsTime : Duration → Type 0
IsTime time = (1_000_000 ≤ as_nanos time) × (as_nanos time ≤ 3_600_000_000_000)
