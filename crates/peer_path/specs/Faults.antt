-- What each fault of a lookup by a request target means.
use Rattle.std.specs.Prelude.{◌≡◌, ℕ, List, Err, IsTrue, false}
use Rattle.peer_path.specs.Places.{Target, Escape, Outside, NoKey, has_good_escapes, is_to_decode, place_below_base, place_of, needs_memory}
use Rattle.peer_path.specs.declared.fault.PathFault.{PathFault}
use Rattle.peer_path.specs.declared.fault.PathFault.TheVariants as fault

-- the target is refused for the reason that the fault names; at `Memory` its path is to be decoded
abbrev pub IsFaultOf : List ℕ → PathFault → Type 0
IsFaultOf target fault.Target = place_of target ≡ Err Target
IsFaultOf target fault.Escape = place_of target ≡ Err Escape
IsFaultOf target fault.Outside = place_of target ≡ Err Outside
IsFaultOf target fault.NoKey = place_of target ≡ Err NoKey
IsFaultOf target fault.Memory = IsTrue (needs_memory target)

-- why a path is not decoded
abbrev pub IsDecodeFault : List ℕ → PathFault → Type 0
IsDecodeFault path fault.Escape = has_good_escapes path ≡ false
IsDecodeFault path fault.Memory = IsTrue (is_to_decode path)
IsDecodeFault path _ = ⊥

-- why a decoded path names no place
abbrev pub IsPlaceFault : List ℕ → PathFault → Type 0
IsPlaceFault path fault.Outside = place_below_base path ≡ Err Outside
IsPlaceFault path fault.NoKey = place_below_base path ≡ Err NoKey
IsPlaceFault path _ = ⊥
