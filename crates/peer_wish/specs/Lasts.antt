-- What is remembered of a head, so that the same head around another key is not read again.
use Rattle.std.specs.Prelude.{◌≡◌, ℕ, ◌+◌, ◌-◌, ◌<◌, ◌≤◌, Bool, false, List, ◌++◌, length, take, drop, Option, Some, All}
use Rattle.peer_head.specs.Blocks.{LIMIT}
use Rattle.peer_head.specs.Heads.{IsVisible}
use Rattle.peer_path.specs.Places.{base_path}
use Rattle.peer_path.specs.Plains.{IsPlain, IsPlainInName, plain_target}
use Rattle.peer_source.specs.declared.group.GroupId.{GroupId}
use Rattle.peer_wish.specs.Wishes.{Asks, get_wish}

-- a byte of a target that stands for itself: visible, and neither `?` nor `%`
abbrev pub IsKeyByte : ℕ → Type 0
IsKeyByte b = IsVisible b × IsPlain b

-- the bytes before a key, the key, and the bytes behind it
abbrev pub around : List ℕ → List ℕ → List ℕ → List ℕ
around before after key = before ++ (key ++ after)

-- what is remembered: the bytes before the key and behind it, the group by name and number, and whether the reply goes
-- without its content
pub record LastParts : Type 0 where
  pub before : List ℕ
  pub after : List ℕ
  pub name : List ℕ
  pub group : GroupId
  pub bare : Bool

-- the group of the name is the one remembered
abbrev pub KnowsGroup : (List ℕ → Option ℕ) → LastParts → Type 0
KnowsGroup numbers last = numbers last.name ≡ Some last.group.number

-- each text that begins with the two parts around a key asks for this key, within the limit
abbrev pub AsksAround : (List ℕ → Option ℕ) → LastParts → Type 0
AsksAround numbers last =
    (key rest : List ℕ) → All IsKeyByte key → length (around last.before last.after key) ≤ LIMIT
    → Asks numbers (around last.before last.after key ++ rest) (get_wish last.group key false last.bare) rest

-- the same wherever the group of the name is the one remembered
abbrev pub IsLast : LastParts → Type 0
IsLast last = (numbers : List ℕ → Option ℕ) → KnowsGroup numbers last → AsksAround numbers last

-- the parts of a block by the places of its target, its key and what follows
abbrev pub last_parts : List ℕ → ℕ → ℕ → ℕ → GroupId → Bool → LastParts
last_parts block target key rest group bare = record {
  before = take key block;
  after = drop rest block;
  name = take (key - 1 - (target + length base_path)) (drop (target + length base_path) block);
  group = group;
  bare = bare;
}

-- the target begins with the base path, then the name in plain bytes and a `/`
pub record IsPlainNameOf (target name : List ℕ) : Type 0 where
  pub plain : All IsPlainInName name
  pub left : List ℕ
  pub is : target ≡ plain_target name left

-- how these places lie
pub record IsLastAt (block : List ℕ) (target key rest : ℕ) (group : GroupId) (bare : Bool) : Type 0 where
  pub named : target + length base_path < key
  pub ordered : key ≤ rest
  pub within : rest ≤ length block
  pub last : IsLast (last_parts block target key rest group bare)
