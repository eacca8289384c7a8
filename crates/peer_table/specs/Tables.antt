-- A table: a text of lines, each a group, a key and a value.
use Rattle.std.specs.Prelude.{◌≡◌, ℕ, ◌+◌, ◌<◌, ◌≤◌, Bool, true, List, [], ◌∷◌, ◌++◌, length, codes, false, cond, nat_lt, nat_le}
use Rattle.std.specs.Prelude.{◌==◌, ◌&&◌, bytes_eq, is_some, Option, Some, None, slice_get, refl}
use Rattle.std.proofs.Common.{sym, subst, arith}
use Rattle.std.proofs.lemmas.Bool.{leb-true}
use Rattle.std.proofs.lemmas.Option.{none-some, same_Some}
use Rattle.std.specs.List.{list_any, position_from}
use Rattle.peer_view.specs.Sinks.{MAX_VALUE}
use Rattle.peer_source.specs.Answers.{Answer, Found, Failed, IsWithinLimit}
use Rattle.peer_table.specs.declared.fault.TableFault.{TableFault}
use Rattle.peer_table.specs.declared.fault.TableFault.TheVariants as fault

-- the most bytes of a table, and the most groups
abbrev pub MAX_TEXT : ℕ
MAX_TEXT = 16777216

abbrev pub MAX_GROUPS : ℕ
MAX_GROUPS = 64

-- a byte before the first piece
abbrev pub before_pieces : ℕ → List (List ℕ) → List (List ℕ)
before_pieces b [] = (b ∷ []) ∷ []
before_pieces b (p ∷ ps) = (b ∷ p) ∷ ps

-- the pieces of bytes round each byte that is this one: one more than there are such bytes
abbrev pub pieces : ℕ → List ℕ → List (List ℕ)
pieces between [] = [] ∷ []
pieces between (b ∷ bytes) = cond (b == between) ([] ∷ pieces between bytes) (before_pieces b (pieces between bytes))

-- bytes without a byte 09
abbrev pub IsPlain : List ℕ → Type 0
IsPlain bytes = list_any (λ b. b == 9) bytes ≡ false

-- a line: its group, its key and its value
pub record Line : Type 0 where
  pub group : List ℕ
  pub key : List ℕ
  pub value : List ℕ

-- the line of three fields, none where they are not three
abbrev pub three_of : List (List ℕ) → Option Line
three_of [] = None
three_of (a ∷ []) = None
three_of (a ∷ b ∷ []) = None
three_of (a ∷ b ∷ c ∷ []) = Some (record { group = a; key = b; value = c })
three_of (a ∷ b ∷ c ∷ d ∷ ps) = None

-- the line of these bytes: the three fields round two bytes 09
abbrev pub line_of : List ℕ → Option Line
line_of bytes = three_of (pieces 9 bytes)

-- a line behind lines, where it is one
abbrev pub with_line : List Line → Option Line → List Line
with_line lines None = lines
with_line lines (Some line) = lines ++ line ∷ []

-- the lines of these pieces, behind the lines before them
abbrev pub lines_behind : List Line → List (List ℕ) → List Line
lines_behind before [] = before
lines_behind before (p ∷ ps) = lines_behind (with_line before (line_of p)) ps

-- the lines of a text: the pieces round each byte 0A that have three fields
abbrev pub lines_of : List ℕ → List Line
lines_of text = lines_behind [] (pieces 10 text)

-- the names with this one behind them, where it is not among them
abbrev pub with_name : List (List ℕ) → List ℕ → List (List ℕ)
with_name names name = cond (list_any (bytes_eq name) names) names (names ++ name ∷ [])

-- the names of the groups of lines, by first appearance, behind those before them
abbrev pub names_behind : List (List ℕ) → List Line → List (List ℕ)
names_behind names [] = names
names_behind names (line ∷ lines) = names_behind (with_name names line.group) lines

-- the names of the groups of lines, by first appearance
abbrev pub names_of : List Line → List (List ℕ)
names_of lines = names_behind [] lines

-- the number of a name: its place among the names
abbrev pub number_in : List Line → List ℕ → Option ℕ
number_in lines name = position_from (bytes_eq name) 0 (names_of lines)

-- the value of the first line of this group and key
abbrev pub value_in : List Line → List ℕ → List ℕ → Option (List ℕ)
value_in [] group key = None
value_in (line ∷ lines) group key = cond (bytes_eq group line.group && bytes_eq key line.key) (Some line.value) (value_in lines group key)

-- the error of a key that no line has
abbrev pub no_such_key : List ℕ
no_such_key = codes "no such key"

-- what a value is as an answer: none, and one over the limit, which no table has, is an error
abbrev pub found_or_missing : Option (List ℕ) → Answer
found_or_missing None = Failed no_such_key
found_or_missing (Some value) = cond (nat_le (length value) MAX_VALUE) (Found value) (Failed no_such_key)

-- the value for the group with this name
abbrev pub value_at : List Line → Option (List ℕ) → List ℕ → Option (List ℕ)
value_at lines None key = None
value_at lines (Some name) key = value_in lines name key

-- the answer of lines for a group's number and a key
abbrev pub table_answer : List Line → ℕ → List ℕ → Answer
table_answer lines number key = found_or_missing (value_at lines (slice_get (names_of lines) number) key)

-- the answers of tables: a value within the limit, or the one error
abbrev pub IsTableAnswer : ℕ → List ℕ → Answer → Type 0
IsTableAnswer number key (Found value) = length value ≤ MAX_VALUE
IsTableAnswer number key (Failed text) = text ≡ no_such_key

-- what is wrong with the n-th line behind those before it: its group and key stood before, its group is one too many,
-- or its value is too long
abbrev pub fault_behind : ℕ → List Line → Line → Option TableFault
fault_behind n before line =
    cond (is_some (value_in before line.group line.key)) (Some (fault.Repeated n))
    (cond (nat_lt MAX_GROUPS (length (with_name (names_of before) line.group))) (Some (fault.Groups n))
    (cond (nat_lt MAX_VALUE (length line.value)) (Some (fault.Value n)) None))

-- the same where the n-th line may not have three fields
abbrev pub bad_line : ℕ → List Line → Option Line → Option TableFault
bad_line n before None = Some (fault.Line n)
bad_line n before (Some line) = fault_behind n before line

-- the first of two faults
abbrev pub first_of : Option TableFault → Option TableFault → Option TableFault
first_of None later = later
first_of (Some now) later = Some now

-- the first bad line among pieces from the n-th on, behind the lines before them. The last piece is what is left
-- behind the last 0A: it is a line
-- without its end, unless nothing is left behind a line
abbrev pub first_bad_from : ℕ → List Line → List (List ℕ) → Option TableFault
first_bad_from n before [] = None
first_bad_from n before (left ∷ []) = cond ((length left == 0) && nat_lt 1 n) None (Some (fault.Line n))
first_bad_from n before (bytes ∷ next ∷ ps) =
    first_of (bad_line n before (line_of bytes)) (first_bad_from (n + 1) (with_line before (line_of bytes)) (next ∷ ps))

-- the first bad line of a text
abbrev pub first_bad : List ℕ → Option TableFault
first_bad text = first_bad_from 1 [] (pieces 10 text)

-- the bytes of a line with its end
abbrev pub line_bytes : Line → List ℕ
line_bytes line = line.group ++ 9 ∷ (line.key ++ 9 ∷ (line.value ++ 10 ∷ []))

-- the text of lines
abbrev pub written : List Line → List ℕ
written [] = []
written (line ∷ lines) = line_bytes line ++ written lines

-- a line whose value is within the limit
abbrev pub IsShort : Line → Type 0
IsShort line = length line.value ≤ MAX_VALUE

found_allowed : (g : ℕ) (k : List ℕ) (o : Option (List ℕ)) → IsTableAnswer g k (found_or_missing o)
found_allowed g k None = refl
found_allowed g k (Some value) =
    (elim (nat_le (length value) MAX_VALUE) as (λ b. nat_le (length value) MAX_VALUE ≡ b
    → IsTableAnswer g k (cond b (Found value) (Failed no_such_key))) [
      | true ↦ λ fits. leb-true (length value) MAX_VALUE fits
      | false ↦ λ _. refl
    ]) refl

-- what a table answers is allowed
pub table_allowed : (lines : List Line) (g : ℕ) (k : List ℕ) (a : Answer) → a ≡ table_answer lines g k → IsTableAnswer g k a
table_allowed lines g k a e = subst (IsTableAnswer g k) (sym e) (found_allowed g k (value_at lines (slice_get (names_of lines) g) k))

-- a found answer is within the limit
pub table_limited : (g : ℕ) (k : List ℕ) (a : Answer) → IsTableAnswer g k a → IsWithinLimit (Some a)
table_limited g k (Found value) h = h
table_limited g k (Failed text) h = tt

-- a place is below the length
place_below : (t : List ℕ → Bool) (i : ℕ) (xs : List (List ℕ)) (j : ℕ) → position_from t i xs ≡ Some j → j < i + length xs
place_below t i [] j h = absurd (none-some j h)
place_below t i (x ∷ xs) j h =
    (elim (t x) as (λ v. cond v (Some i) (position_from t (i + 1) xs) ≡ Some j → j < i + length (x ∷ xs)) [
      | true ↦ λ e. let same : i ≡ j = same_Some i j e in omega arith
      | false ↦ λ e. let on = place_below t (i + 1) xs j e in omega arith
    ]) h

-- each number is that of a name
pub number_below : (lines : List Line) (name : List ℕ) (i : ℕ) → number_in lines name ≡ Some i → i < length (names_of lines)
number_below lines name i e = let below = place_below (bytes_eq name) 0 (names_of lines) i e in omega arith
