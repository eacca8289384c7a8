-- What stands around the target of a head: its method and a space before it, and all that follows it.
use Rattle.std.specs.Prelude.{ℕ, ◌+◌, ◌<◌, ◌≤◌, List, ◌++◌, length, take, drop, All}
use Rattle.peer_head.specs.Blocks.{Begins, LIMIT}
use Rattle.peer_head.specs.Heads.{HeadParts, IsHead, IsVisible}

-- the block around a target
abbrev pub framed : List ℕ → List ℕ → List ℕ → List ℕ
framed before after target = before ++ (target ++ after)

-- the head with another target
abbrev pub with_target : HeadParts → List ℕ → HeadParts
with_target p target = record p { target = target }

-- a text begins with the two parts around the target, and that block is the head with this target
pub record IsFramed (before after : List ℕ) (p : HeadParts) (target rest : List ℕ) : Type 0 where
  pub begins : Begins (framed before after target ++ rest) (framed before after target) rest
  pub head : IsHead (framed before after target) (with_target p target)

-- whatever visible target stands between the two parts, they are a head with that target, where it is within the limit
abbrev pub IsFrame : List ℕ → List ℕ → HeadParts → Type 0
IsFrame before after p =
    (target rest : List ℕ) → 0 < length target → All IsVisible target → length (framed before after target) ≤ LIMIT
    → IsFramed before after p target rest

-- where the target of a head begins in its block
abbrev pub target_start : HeadParts → ℕ
target_start p = length p.method + 1

-- the bytes of a block before the target of its head
abbrev pub before_target : List ℕ → HeadParts → List ℕ
before_target block p = take (target_start p) block

-- and those behind it
abbrev pub after_target : List ℕ → HeadParts → List ℕ
after_target block p = drop (target_start p + length p.target) block
