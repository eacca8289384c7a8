-- What the search for the first block of a text answers.
use Rattle.std.specs.Prelude.{ℕ, List, drop, slice_range, ◌≤◌, length}
use Rattle.peer_head.specs.declared.block.Cut.{Cut}
use Rattle.peer_head.specs.declared.block.Cut.TheVariants.{Unfinished, TooLong, Block}
use Rattle.peer_head.specs.Blocks.{Begins, IsUnfinished, IsTooLong}

-- the bytes from start up to end are the first block of the text
pub record IsBlockAt (t : List ℕ) (start end : ℕ) : Type 0 where
  pub ordered : start ≤ end
  pub within : end ≤ length t
  pub begins : Begins t (slice_range t start end) (drop end t)

-- where the first block of a text stands, or why there is none
abbrev pub IsCutOf : List ℕ → Cut → Type 0
IsCutOf t Unfinished = IsUnfinished t
IsCutOf t TooLong = IsTooLong t
IsCutOf t (Block start end) = IsBlockAt t start end
