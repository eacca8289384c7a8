-- What the page is made of, in Prometheus' text format 0.0.4.
use Rattle.std.specs.Prelude.{ℕ, ◌/◌, ◌%◌, List, [], ◌∷◌, ◌++◌, Option, Some, None, codes, decimal, flat_map}
use Rattle.std.specs.Char.{digit_char}

-- what a name is for, and its type
abbrev pub family_text : List ℕ → List ℕ → List ℕ → List ℕ
family_text name kind help =
    codes "# HELP " ++ name ++ codes " " ++ help ++ codes "\n# TYPE " ++ name ++ codes " " ++ kind ++ codes "\n"

-- a number and the end of its line
abbrev pub number_text : ℕ → List ℕ
number_text value = decimal value ++ codes "\n"

-- a number that may be without a bound
abbrev pub bound_text : Option ℕ → List ℕ
bound_text (Some value) = number_text value
bound_text None = codes "+Inf\n"

-- so many hundredths
abbrev pub hundredths_text : ℕ → List ℕ
hundredths_text value =
    decimal (value / 100) ++ codes "." ++ (digit_char (value / 10 % 10) ∷ digit_char (value % 10) ∷ []) ++ codes "\n"

-- the last three digits of a number
abbrev pub three_digits : ℕ → List ℕ
three_digits value = digit_char (value / 100 % 10) ∷ digit_char (value / 10 % 10) ∷ digit_char (value % 10) ∷ []

-- so many microseconds, in seconds
abbrev pub seconds_text : ℕ → List ℕ
seconds_text micros = decimal (micros / 1000000) ++ codes "." ++ three_digits (micros / 1000) ++ three_digits micros ++ codes "\n"

-- a number with its name
abbrev pub sample_text : List ℕ → ℕ → List ℕ
sample_text name value = name ++ codes " " ++ number_text value

-- a number with its name and a label
abbrev pub labelled_text : List ℕ → List ℕ → ℕ → List ℕ
labelled_text name label value = name ++ codes "{" ++ label ++ codes "} " ++ number_text value

-- numbers of one name, each with its label
abbrev pub rows_text : List ℕ → List (List ℕ × ℕ) → List ℕ
rows_text name rows = flat_map (λ row. labelled_text name row.0 row.1) rows

-- a number that never falls
abbrev pub counter_text : List ℕ → ℕ → List ℕ → List ℕ
counter_text name value help = family_text name (codes "counter") help ++ sample_text name value

-- a number that rises and falls
abbrev pub gauge_text : List ℕ → ℕ → List ℕ → List ℕ
gauge_text name value help = family_text name (codes "gauge") help ++ sample_text name value
