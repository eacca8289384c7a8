-- The lines of the program that have numbers.
use Rattle.std.specs.Prelude.{◌≡◌, ℕ, List, [], ◌∷◌, ◌++◌, codes, decimal, Option}
use Rattle.peer_view.specs.Moves.{Moves}
use Rattle.peer_fill.specs.declared.close.Report.{Report}
use Rattle.peer_table.specs.declared.fault.TableFault.{TableFault}
use Rattle.peer_table.specs.declared.fault.TableFault.TheVariants as fault

-- what a pool counted
abbrev pub totals_line : Report → List ℕ
totals_line r =
    codes "asked " ++ decimal r.asked ++ codes " hits " ++ decimal r.hits ++ codes " led " ++ decimal r.led ++ codes " joined "
    ++ decimal r.joined ++ codes " calls " ++ decimal r.calls ++ codes " rehits " ++ decimal r.rehits ++ codes " left " ++ decimal r.left
    ++ 10 ∷ []

-- a table whose line n is bad
abbrev pub bad_line : ℕ → List ℕ
bad_line n = codes "peer_serve: bad table at line " ++ decimal n ++ 10 ∷ []

-- why there is no table
abbrev pub table_line : TableFault → List ℕ
table_line fault.ReadFault = codes "peer_serve: read failed\n"
table_line fault.Spent = codes "peer_serve: too many reads\n"
table_line fault.Memory = codes "peer_serve: out of memory\n"
table_line fault.TooLarge = codes "peer_serve: table too large\n"
table_line (fault.Line n) = bad_line n
table_line (fault.Repeated n) = bad_line n
table_line (fault.Groups n) = bad_line n
table_line (fault.Value n) = bad_line n

-- the status of the program then
abbrev pub table_status : TableFault → ℕ
table_status fault.ReadFault = 3
table_status fault.Spent = 6
table_status fault.Memory = 5
table_status fault.TooLarge = 2
table_status (fault.Line n) = 2
table_status (fault.Repeated n) = 2
table_status (fault.Groups n) = 2
table_status (fault.Value n) = 2

-- a front of the line was written, and all of it where no write failed
pub record TellsLine (failures failures' : ℕ) (taken taken' : Option (List ℕ)) (line : List ℕ) : Type 0 where
  pub rest : List ℕ
  pub moved : Moves taken taken' line rest
  pub whole : failures' ≡ failures → rest ≡ []
