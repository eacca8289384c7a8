-- An index holds lines.
use Rattle.std.specs.Prelude.{◌≡◌, ℕ, ◌≤◌, List, [], ◌∷◌, ◌++◌, length, Some, None, Result, Ok, Err}
use Rattle.peer_table.specs.Indexes.{AreNumbers, AreSpans, AreSpansInside}
use Rattle.peer_table.specs.Tables.{Line, IsPlain, line_of, names_of, bad_line, first_bad, lines_of, MAX_GROUPS}
use Rattle.peer_table.specs.declared.fault.TableFault.{TableFault}
use Rattle.peer_table.specs.declared.fault.TableFault.TheVariants as fault
use Rattle.peer_table.specs.declared.index.Index.{Index}

-- no group has a byte 09
abbrev pub ArePlain : List Line → Type 0
ArePlain [] = Unit {0}
ArePlain (line ∷ lines) = IsPlain line.group × ArePlain lines

-- the names, numbers and spans of an index are those of the lines
pub record Holds (text : List ℕ) (index : Index) (lines : List Line) : Type 0 where
  pub names : index.names.items ≡ names_of lines
  pub numbers : AreNumbers index.numbers index.names.items
  pub spans : AreSpans text index.spans lines
  pub inside : AreSpansInside text index.spans
  pub few : length index.names.items ≤ MAX_GROUPS

-- the line of these bytes is good behind the lines seen, and the index holds it too
pub record Adds (text : List ℕ) (n : ℕ) (seen : List Line) (bytes : List ℕ) (index : Index) : Type 0 where
  pub line : Line
  pub is : line_of bytes ≡ Some line
  pub good : bad_line n seen (Some line) ≡ None
  pub plain : ArePlain (seen ++ line ∷ [])
  pub holds : Holds text index (seen ++ line ∷ [])

-- the line is added, or has this fault behind those seen, or memory was refused
abbrev pub AddsLine : List ℕ → ℕ → List Line → List ℕ → Index → Result Unit TableFault → Type 0
AddsLine text n seen bytes index (Ok done) = Adds text n seen bytes index
AddsLine text n seen bytes index (Err fault.ReadFault) = ⊥
AddsLine text n seen bytes index (Err fault.Spent) = ⊥
AddsLine text n seen bytes index (Err fault.TooLarge) = ⊥
AddsLine text n seen bytes index (Err (fault.Line m)) = bad_line n seen (line_of bytes) ≡ Some (fault.Line m)
AddsLine text n seen bytes index (Err (fault.Repeated m)) = bad_line n seen (line_of bytes) ≡ Some (fault.Repeated m)
AddsLine text n seen bytes index (Err (fault.Groups m)) = bad_line n seen (line_of bytes) ≡ Some (fault.Groups m)
AddsLine text n seen bytes index (Err (fault.Value m)) = bad_line n seen (line_of bytes) ≡ Some (fault.Value m)
AddsLine text n seen bytes index (Err fault.Memory) = Unit {0}

-- what a table keeps: its text has no bad line, and its index holds the lines
pub record Keeps (text : List ℕ) (index : Index) : Type 0 where
  pub good : first_bad text ≡ None
  pub holds : Holds text index (lines_of text)
