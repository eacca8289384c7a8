-- The main cache of a group (groupcache, `groupcache.go` and `lru/lru.go`).
use Rattle.std.specs.Prelude.{◌≡◌, ℕ, ◌+◌, ◌-◌, ◌/◌, ◌≤◌, List, [], ◌∷◌, length, take, All, cond, nat_lt, nat_le, ◌==◌}
use Rattle.std.specs.Prelude.{◌<◌, ◌&&◌, Bool, true, false, bytes_eq, Option, Some, None, option_map}
use Rattle.std.specs.Option.{option_map_or}
use Rattle.std.specs.Map.{lookup, remove_entry}
use Rattle.lru.specs.LruCache.{LruCache}
use Rattle.peer_view.specs.Sinks.{MAX_VALUE}
use Rattle.peer_source.specs.Answers.{Answer, Found, Failed, Filled}

-- the most entries of a cache as groupcache has it
abbrev pub MAX_ENTRIES : ℕ
MAX_ENTRIES = 4096

-- a key and its value
abbrev pub Entry : Type 0
Entry = List ℕ × List ℕ

-- a group's number; the most bytes and the most entries; how many bytes an entry counts beside those of its key and value;
-- whether an entry that is larger than the limit empties the cache; and the entries, the most recently used first
pub record Cache : Type 0 where
  pub group : ℕ
  pub limit : ℕ
  pub most : ℕ
  pub each : ℕ
  pub clears : Bool
  pub entries : List Entry

-- two caches of one group with the same bounds
pub record IsSameCache (old new : Cache) : Type 0 where
  pub group : new.group ≡ old.group
  pub limit : new.limit ≡ old.limit
  pub most : new.most ≡ old.most
  pub each : new.each ≡ old.each
  pub clears : new.clears ≡ old.clears

-- a cache without an entry, as groupcache has it
abbrev pub empty_cache : ℕ → ℕ → Cache
empty_cache group limit = record { group = group; limit = limit; most = MAX_ENTRIES; each = 0; clears = true; entries = [] }

-- a cache without an entry, of these bounds
abbrev pub bounded_cache : ℕ → ℕ → ℕ → ℕ → Cache
bounded_cache group limit most each =
    record { group = group; limit = limit; most = most; each = each; clears = false; entries = [] }

-- what is counted beside its bytes for a key or a value that its view does not hold itself: half as much as for an entry
abbrev pub block_of : ℕ → List ℕ → ℕ
block_of each text = cond (nat_le (length text) 46) 0 (each / 2)

-- the bytes of an entry: those of its key and of its value, and those that are counted beside them
abbrev pub bytes_of : ℕ → Entry → ℕ
bytes_of each e = each + length e.0 + block_of each e.0 + length e.1 + block_of each e.1

-- the bytes of all these entries
abbrev pub bytes_in : ℕ → List Entry → ℕ
bytes_in each [] = 0
bytes_in each (e ∷ es) = bytes_of each e + bytes_in each es

-- the front of the entries that fits the room: they are kept as long as their sum stays within it
abbrev pub fitting : ℕ → ℕ → List Entry → List Entry
fitting each room [] = []
fitting each room (e ∷ es) = cond (nat_le (bytes_of each e) room) (e ∷ fitting each (room - bytes_of each e) es) []

-- the entries without the one of this key
abbrev pub without : List ℕ → List Entry → List Entry
without key es = remove_entry (bytes_eq key) es

-- the value of the entry with this key
abbrev pub looked_up : List ℕ → Cache → Option (List ℕ)
looked_up key c = lookup (bytes_eq key) c.entries

-- the fill of a value that was found
abbrev pub found_fill : ℕ → List ℕ → List ℕ → Filled
found_fill group key value = record { group = group; key = key; answer = Some (Found value) }

-- the fill of the entry with this key
abbrev pub fill_of : List ℕ → Cache → Option Filled
fill_of key c = option_map (found_fill c.group key) (looked_up key c)

-- the entry with this key, if there is one, is the first
abbrev pub brought_to_front : List ℕ → Cache → Cache
brought_to_front key c = option_map_or (λ value. record c { entries = (key, value) ∷ without key c.entries }) (looked_up key c) c

-- a cache that was given an entry larger than its limit
abbrev pub overfilled : Cache → Cache
overfilled c = cond c.clears (record c { entries = [] }) c

-- an entry goes before the others; of these, the first stay, as many as there may be, and of those the front that fits the limit
abbrev pub put_first : List ℕ → List ℕ → Cache → Cache
put_first key value c = cond (nat_le (bytes_of c.each (key, value)) c.limit)
    (record c { entries = fitting c.each c.limit (take c.most ((key, value) ∷ without key c.entries)) }) (overfilled c)

-- the value that was found
abbrev pub found_in : Option Answer → Option (List ℕ)
found_in (Some (Found value)) = Some value
found_in (Some (Failed text)) = None
found_in None = None

-- the value that a cache keeps of a fill: one found for its group, where its limit is not 0
abbrev pub value_to_keep : Filled → Cache → Option (List ℕ)
value_to_keep fill c = cond ((fill.group == c.group) && nat_lt 0 c.limit) (found_in fill.answer) None

-- a cache that was given a fill: a value to keep is put first, and any other fill changes nothing
abbrev pub added : Filled → Cache → Cache
added fill c = option_map_or (λ value. put_first fill.key value c) (value_to_keep fill c) c

-- the same map without entries at its end
pub record IsFrontOf (old new : LruCache (List ℕ) (List ℕ)) : Type 0 where
  pub cap : new.cap ≡ old.cap
  pub front : new.entries ≡ take (length new.entries) old.entries

-- so much of the limit is left beside the entry of a fill that is to be kept and whose key has no entry
pub record LeavesRoom (fill : Filled) (c : Cache) (room : ℕ) : Type 0 where
  pub value : List ℕ
  pub kept : value_to_keep fill c ≡ Some value
  pub missing : looked_up fill.key c ≡ None
  pub beside : room + bytes_of c.each (fill.key, value) ≡ c.limit

-- the entry is an answer that is allowed for the group
pub record IsAnswer (allowed : ℕ → List ℕ → Answer → Type 0) (group : ℕ) (e : Entry) : Type 0 where
  pub within : length e.1 ≤ MAX_VALUE
  pub answer : ∥ allowed group e.0 (Found e.1) ∥₁

-- what a cache keeps: how many bytes its entries have, within the limit, no more of them than there may be, at limit 0 none, and
-- answers alone
pub record Keeps (allowed : ℕ → List ℕ → Answer → Type 0) (group limit each bytes : ℕ) (kept : LruCache (List ℕ) (List ℕ)) : Type 0 where
  pub sum : bytes ≡ bytes_in each kept.entries
  pub within : bytes ≤ limit
  pub some : 0 < kept.cap
  pub most : length kept.entries ≤ kept.cap
  pub off : limit ≡ 0 → kept.entries ≡ []
  pub answers : All (IsAnswer allowed group) kept.entries
