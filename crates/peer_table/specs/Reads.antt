-- What reading a table answers.
use Rattle.std.specs.Prelude.{◌≡◌, ℕ, ◌+◌, ◌<◌, ◌≤◌, List, ◌++◌, length, Some, None, Result, Ok, Err, Vec}
use Rattle.std.specs.declared.alloc.Global.{Global}
use Rattle.std.specs.Io.KnownBytes.{Appends}
use Rattle.peer_view.specs.ReadWrite.{Reading}
use Rattle.peer_table.specs.Tables.{first_bad, MAX_TEXT}
use Rattle.peer_table.specs.declared.fault.TableFault.{TableFault}
use Rattle.peer_table.specs.declared.fault.TableFault.TheVariants as fault

-- so many reads gave the text, and none told the end or failed
pub record Gave (r : Reading) (made : ℕ) (text : List ℕ) : Type 0 where
  pub bytes : Appends r.given r.given' text
  pub calls : r.calls' ≡ r.calls + made
  pub ends : r.ends' ≡ r.ends
  pub fine : r.failures' ≡ r.failures

-- at most so many reads gave the whole text, which is within the limit, and the last told the end
pub record GaveAll (r : Reading) (reads : ℕ) (text : List ℕ) : Type 0 where
  pub bytes : Appends r.given r.given' text
  pub calls : r.calls' ≤ r.calls + reads
  pub told : r.ends' ≡ r.ends + 1
  pub fine : r.failures' ≡ r.failures
  pub within : length text ≤ MAX_TEXT

-- a read failed, after reads that gave a text within the limit
pub record IsReadFault (r : Reading) (reads : ℕ) : Type 0 where
  pub text : List ℕ
  pub bytes : Appends r.given r.given' text
  pub within : length text ≤ MAX_TEXT
  pub calls : r.calls' ≤ r.calls + reads
  pub not_told : r.ends' ≡ r.ends
  pub failed : r.failures' ≡ r.failures + 1

-- all the reads were made, and gave a text within the limit
pub record IsSpent (r : Reading) (reads : ℕ) : Type 0 where
  pub text : List ℕ
  pub gave : Gave r reads text
  pub within : length text ≤ MAX_TEXT

-- reads gave more than the limit, the last of them as the first
pub record IsTooLarge (r : Reading) (reads : ℕ) : Type 0 where
  pub text : List ℕ
  pub more : List ℕ
  pub made : ℕ
  pub gave : Gave r made (text ++ more)
  pub calls : made ≤ reads
  pub within : length text ≤ MAX_TEXT
  pub over : MAX_TEXT < length (text ++ more)

-- all was given, and this is the fault of the first bad line
pub record IsBad (r : Reading) (reads : ℕ) (f : TableFault) : Type 0 where
  pub text : List ℕ
  pub gave : GaveAll r reads text
  pub bad : first_bad text ≡ Some f

-- all was given, and no line is bad
pub record IsGood (r : Reading) (reads : ℕ) (text : List ℕ) : Type 0 where
  pub gave : GaveAll r reads text
  pub good : first_bad text ≡ None

-- what the fault says of the reader and of what it gave
abbrev pub FailsAs : Reading → ℕ → TableFault → Type 0
FailsAs r reads fault.ReadFault = IsReadFault r reads
FailsAs r reads fault.Spent = IsSpent r reads
FailsAs r reads fault.TooLarge = IsTooLarge r reads
FailsAs r reads (fault.Line n) = IsBad r reads (fault.Line n)
FailsAs r reads (fault.Repeated n) = IsBad r reads (fault.Repeated n)
FailsAs r reads (fault.Groups n) = IsBad r reads (fault.Groups n)
FailsAs r reads (fault.Value n) = IsBad r reads (fault.Value n)
FailsAs r reads fault.Memory = Unit {0}

-- a table is answered for a good text, and each fault where it is the first that applies
abbrev pub ReadsAs : Reading → ℕ → Result (List ℕ) TableFault → Type 0
ReadsAs r reads (Ok text) = IsGood r reads text
ReadsAs r reads (Err f) = FailsAs r reads f

-- what the fault of a text says: that it is that of its first bad line, unless memory was refused
abbrev pub IsFirstBad : List ℕ → TableFault → Type 0
IsFirstBad text fault.ReadFault = ⊥
IsFirstBad text fault.Spent = ⊥
IsFirstBad text fault.TooLarge = ⊥
IsFirstBad text (fault.Line n) = first_bad text ≡ Some (fault.Line n)
IsFirstBad text (fault.Repeated n) = first_bad text ≡ Some (fault.Repeated n)
IsFirstBad text (fault.Groups n) = first_bad text ≡ Some (fault.Groups n)
IsFirstBad text (fault.Value n) = first_bad text ≡ Some (fault.Value n)
IsFirstBad text fault.Memory = Unit {0}

-- what taking all the bytes answers: them, or one of the faults of reading
abbrev pub GathersAs : Reading → ℕ → Result (Vec ℕ Global) TableFault → Type 0
GathersAs r reads (Ok text) = GaveAll r reads text.items
GathersAs r reads (Err fault.ReadFault) = IsReadFault r reads
GathersAs r reads (Err fault.Spent) = IsSpent r reads
GathersAs r reads (Err fault.TooLarge) = IsTooLarge r reads
GathersAs r reads (Err (fault.Line n)) = ⊥
GathersAs r reads (Err (fault.Repeated n)) = ⊥
GathersAs r reads (Err (fault.Groups n)) = ⊥
GathersAs r reads (Err (fault.Value n)) = ⊥
GathersAs r reads (Err fault.Memory) = Unit {0}
