-- How values that took long wait until they are told.
use Rattle.std.specs.Prelude.{◌≡◌, ◌<◌, ◌≤◌, ◌+◌, ◌-◌, ◌^◌, ◌⊎◌, ◌++◌, [], ◌∷◌, length, min}
use Rattle.peer_fetch.specs.declared.slow.SlowList.{SlowList}
use Rattle.peer_fetch.specs.declared.slow.SlowValue.{SlowValue}

-- the value stands behind fewer than 32 others
abbrev pub Puts : SlowValue → SlowList → SlowList → Type 0
Puts value old new = (length old.values.items < 32) × (new.values.items ≡ old.values.items ++ value ∷ []) × (new.left_out ≡ old.left_out)

-- it was counted, and the others stay
abbrev pub Counts : SlowList → SlowList → Type 0
Counts old new = (new.values.items ≡ old.values.items) × (new.left_out ≡ min (old.left_out + 1) (2 ^ 64 - 1))

-- one of the two
abbrev pub PutsOrCounts : SlowValue → SlowList → SlowList → Type 0
PutsOrCounts value old new = Puts value old new ⊎ Counts old new
