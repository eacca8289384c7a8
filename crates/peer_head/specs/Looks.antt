-- What the bytes at the front of a stream are, by these bytes alone.
use Rattle.std.specs.Prelude.{◌≡◌, ℕ, Bool, false, List, Some, None}
use Rattle.peer_head.specs.declared.fault.HeadFault.{HeadFault}
use Rattle.peer_head.specs.declared.fault.HeadFault.TheVariants.{TooLong, NotAHead}
use Rattle.peer_head.specs.declared.look.Look.{Look}
use Rattle.peer_head.specs.declared.look.Look.TheVariants.{Need, Head, Fault}
use Rattle.peer_head.specs.Blocks.{Begins, IsUnfinished, IsTooLong}
use Rattle.peer_head.specs.Heads.{HeadParts, IsHead, HasNoHead}
use Rattle.peer_head.specs.Faults.{head_fault, is_bare}

-- the text begins with a head that has these parts and no fault
pub record ShowsHead (t : List ℕ) (p : HeadParts) : Type 0 where
  pub block : List ℕ
  pub rest : List ℕ
  pub begins : Begins t block rest
  pub head : IsHead block p
  pub fine : head_fault p ≡ None

-- the text begins with this fault, and the flag tells whether the reply to it goes without content
pub data IsFault (t : List ℕ) : HeadFault → Bool → Type 0 where
  too_long : IsTooLong t → IsFault t TooLong false
  no_head : (block rest : List ℕ) → Begins t block rest → HasNoHead block → IsFault t NotAHead false
  of_head : (block rest : List ℕ) → Begins t block rest → (p : HeadParts) → IsHead block p → (f : HeadFault) → head_fault p ≡ Some f
      → IsFault t f (is_bare p)

-- what the text is
abbrev pub LooksAs : List ℕ → Look → Type 0
LooksAs t Need = IsUnfinished t
LooksAs t (Head p) = ShowsHead t p
LooksAs t (Fault f bare) = IsFault t f bare
