-- What a turn of a connection keeps of the value that is under way, and what it gives back.
use Rattle.std.specs.Prelude.{◌≡◌, ℕ, Bool, List, Option, IsSome, IsSomeAnd}
use Rattle.peer_runtime.specs.declared.wire.Wire.{Wire}
use Rattle.peer_source.specs.declared.source.Source as Source
use Rattle.peer_fetch.specs.declared.link.Connecting.{Connecting}
use Rattle.peer_fetch.specs.declared.link.Connecting.TheVariants as connecting
use Rattle.peer_fetch.specs.declared.link.Turn.{Turn}
use Rattle.peer_fetch.specs.declared.link.Turn.TheVariants as turn
use Rattle.peer_value.specs.UnderWays.{HasSameJob, IsCutOn, IsDoneOf, IsDoneOn, LeavesFree}
use Rattle.peer_value.specs.declared.under_way.UnderWay.{UnderWay}

-- a connection whose address has not failed was not used
abbrev pub KeepsWire : Connecting → Wire → Wire → Type 0
KeepsWire connecting.Connected old new = new ≡ old
KeepsWire connecting.Waits old new = new ≡ old
KeepsWire (connecting.Failed end) old new = Unit {0}

module _ {S : Type 0} {g : Source.Ghosts S} where
  -- the value stays on the connection, or it is given back with its own job, and the connection is kept only where another request
  -- may follow on it
  abbrev pub IsTurnOf : UnderWay S g → Option (UnderWay S g) → Turn S g → Type 0
  IsTurnOf u left turn.Waits = IsSomeAnd left (HasSameJob u)
  IsTurnOf u left turn.Busy = IsSomeAnd left (HasSameJob u)
  IsTurnOf u left turn.Gone = ⊥
  IsTurnOf u left (turn.Done d reusable) = IsDoneOf u d × (IsSome reusable → LeavesFree d)
  IsTurnOf u left (turn.Unconnected u' end) = HasSameJob u u'
  IsTurnOf u left (turn.Cut u' failure) = HasSameJob u u'

  -- if a value was found, or a status is told, the network says what its connection carried
  abbrev pub GivesOn : (List ℕ → List ℕ → Bool → Type 0) → Turn S g → Type 0
  GivesOn carried turn.Waits = Unit {0}
  GivesOn carried turn.Busy = Unit {0}
  GivesOn carried turn.Gone = Unit {0}
  GivesOn carried (turn.Done d reusable) = IsDoneOn carried d
  GivesOn carried (turn.Unconnected u end) = Unit {0}
  GivesOn carried (turn.Cut u failure) = IsCutOn carried u failure
