-- What an index over a text holds of its lines.
use Rattle.std.specs.Prelude.{◌≡◌, ℕ, Bool, true, false, ◌+◌, ◌<◌, ◌≤◌, List, [], ◌∷◌, ◌++◌, length, take, drop, bytes_eq}
use Rattle.std.specs.Prelude.{cond, slice_range, Option, Some, None, option_map, Vec}
use Rattle.std.specs.declared.alloc.Global.{Global}
use Rattle.std.specs.declared.hash.FoldHasher.{FoldHasher}
use Rattle.std.specs.declared.hash.BuildHasherDefault.{BuildHasherDefault}
use Rattle.std.specs.HashMap.{get, get_by, HashMap}
use Rattle.std.specs.List.{position_from}
use Rattle.peer_table.specs.Tables.{Line, IsPlain, line_of, with_name, MAX_GROUPS}
use Rattle.peer_table.specs.declared.index.Span.{Span}

-- numbers by name
abbrev pub Numbers : Type 0
Numbers = HashMap (Vec ℕ Global) ℕ (BuildHasherDefault FoldHasher)

-- spans of values by group, 09 and key
abbrev pub Spans : Type 0
Spans = HashMap (List ℕ) Span (BuildHasherDefault FoldHasher)

-- the number that is kept for a name
abbrev pub number_at : Numbers → List ℕ → Option ℕ
number_at numbers name = get_by (λ (k : Vec ℕ Global). bytes_eq name k.items) numbers

-- each name has its place among the names as its number
abbrev pub AreNumbers : Numbers → List (List ℕ) → Type 0
AreNumbers numbers names = (q : List ℕ) → number_at numbers q ≡ position_from (bytes_eq q) 0 names

-- group, 09 and key
abbrev pub joined : List ℕ → List ℕ → List ℕ
joined group key = group ++ 9 ∷ key

-- the value that the lines have for a joined group and key
abbrev pub value_of_joined : List Line → List ℕ → Option (List ℕ)
value_of_joined [] q = None
value_of_joined (line ∷ lines) q = cond (bytes_eq q (joined line.group line.key)) (Some line.value) (value_of_joined lines q)

-- the bytes at a span
abbrev pub part_of : List ℕ → Span → List ℕ
part_of text p = slice_range text p.from p.to

-- the span for each group and key of the lines is that of the value
abbrev pub AreSpans : List ℕ → Spans → List Line → Type 0
AreSpans text spans lines = (q : List ℕ) → option_map (part_of text) (get bytes_eq spans q) ≡ value_of_joined lines q

-- a line's three fields lie round the bytes at these two places, and neither its group nor its key has a byte 09
pub record AreTabs (bytes : List ℕ) (first second : ℕ) : Type 0 where
  pub order : first < second
  pub within : second < length bytes
  pub line : line_of bytes ≡ Some (record {
    group = take first bytes;
    key = slice_range bytes (first + 1) second;
    value = drop (second + 1) bytes;
  })
  pub front : take second bytes ≡ joined (take first bytes) (slice_range bytes (first + 1) second)
  pub plain : IsPlain (take first bytes)

-- a name is numbered, unless it would be one too many
abbrev pub PutsName : Numbers → Numbers → List (List ℕ) → List (List ℕ) → List ℕ → Bool → Type 0
PutsName old new names names' name true =
    AreNumbers old names → AreNumbers new names' × (names' ≡ with_name names name)
    × (length names ≤ MAX_GROUPS → length names' ≤ MAX_GROUPS)
PutsName old new names names' name false = AreNumbers old names → MAX_GROUPS < length (with_name names name)

-- each span lies in the text
abbrev pub AreSpansInside : List ℕ → Spans → Type 0
AreSpansInside text spans = (q : List ℕ) (p : Span) → get bytes_eq spans q ≡ Some p → (p.from ≤ p.to) × (p.to ≤ length text)
