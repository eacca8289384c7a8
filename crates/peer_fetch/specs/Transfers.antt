-- What a connection carried, and what its thread says of the value that is under way on it.
use Rattle.std.specs.Prelude.{◌≡◌, ◌≤◌, ◌++◌, ◌||◌, ◌==◌, ℕ, List, length, take, Option, Some, None, Result, Ok, Err}
use Rattle.peer_runtime.specs.Wires.{IsSameCame, IsSameSent}
use Rattle.peer_runtime.specs.declared.wire.Wire.{Wire}
use Rattle.peer_source.specs.declared.source.Source as Source
use Rattle.peer_value.specs.Values.{IsFailureOf}
use Rattle.peer_value.specs.declared.under_way.UnderWay.{UnderWay}
use Rattle.peer_fetch.specs.declared.transfer.Halt.{Halt}
use Rattle.peer_fetch.specs.declared.transfer.Halt.TheVariants as halt

-- this connection carried in its present use what was sent for the value and what came for it, and nothing else
abbrev pub IsOn : {S : Type 0} {g : Source.Ghosts S} → Wire → UnderWay S g → Type 0
IsOn wire u = (wire.sent.bytes ≡ take u.fetching.sent u.fetching.request.items) × (wire.came.bytes ≡ u.fetching.receiving.came.bytes) × (wire.ended ≡ u.fetching.ended)

-- if a turn ends with a failure that tells a status, it is that of the value's fetch
abbrev pub IsHaltOf : {S : Type 0} {g : Source.Ghosts S} → UnderWay S g → Halt → Type 0
IsHaltOf u halt.Waits = Unit {0}
IsHaltOf u halt.Busy = Unit {0}
IsHaltOf u (halt.Failed failure) = IsFailureOf u.fetching failure

-- so many bytes came, none of them at its end, and they stand at the front of the room; or nothing came
abbrev pub HasRead : {E : Type 0} → Result (Option ℕ) E → Wire → Wire → List ℕ → Type 0
HasRead (Ok (Some n)) old new room = (n ≤ length room) × (new.came.bytes ≡ old.came.bytes ++ take n room) × (new.ended ≡ (old.ended || n == 0)) × IsSameSent old new
HasRead (Ok None) old new room = IsSameSent old new × IsSameCame old new
HasRead (Err e) old new room = IsSameSent old new × IsSameCame old new
