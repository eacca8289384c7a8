-- Laws of blocks, heads and looks.
use Rattle.std.specs.Prelude.{◌≡◌, ℕ, ◌<◌, List, ◌++◌, length}
use Rattle.peer_head.specs.declared.look.Look.{Look}
use Rattle.peer_head.specs.Blocks.{Begins, IsTooLong}
use Rattle.peer_head.specs.Heads.{HeadParts, IsHead}
use Rattle.peer_head.specs.Looks.{LooksAs}
use Rattle.peer_head.specs.Frames.{IsFrame, before_target, after_target}

-- a text begins with at most one block
abbrev pub BeginsOnce : Type 0
BeginsOnce = (t b b' r r' : List ℕ) → Begins t b r → Begins t b' r' → (b ≡ b') × (r ≡ r')

-- more bytes keep the first block
abbrev pub KeepsBlock : Type 0
KeepsBlock = (t b r more : List ℕ) → Begins t b r → Begins (t ++ more) b (r ++ more)

-- what follows a block is shorter than the text
abbrev pub LeavesLess : Type 0
LeavesLess = (t b r : List ℕ) → Begins t b r → length r < length t

-- more bytes make no block of what is too long
abbrev pub StaysTooLong : Type 0
StaysTooLong = (t more : List ℕ) → IsTooLong t → IsTooLong (t ++ more)

-- a block is at most one head
abbrev pub IsOneHead : Type 0
IsOneHead = (block : List ℕ) (p q : HeadParts) → IsHead block p → IsHead block q → p ≡ q

-- a text looks one way only
abbrev pub LooksOneWay : Type 0
LooksOneWay = (t : List ℕ) (a b : Look) → LooksAs t a → LooksAs t b → a ≡ b

-- each text looks some way
abbrev pub LooksSomeWay : Type 0
LooksSomeWay = (t : List ℕ) → (a : Look) × LooksAs t a

-- what stands around the target of a head is a head around any other
abbrev pub TakesAnyTarget : Type 0
TakesAnyTarget =
    (t block rest : List ℕ) (p : HeadParts) → Begins t block rest → IsHead block p
    → IsFrame (before_target block p) (after_target block p) p
