-- What a connection carried in its present use.
use Rattle.std.specs.Prelude.{◌≡◌, ℕ, Bool, false, List, []}
use Rattle.peer_runtime.specs.declared.wire.Wire.{Wire}

-- nothing was sent, nothing came, and no end was told
pub record IsBlank (wire : Wire) : Type 0 where
  pub sent : wire.sent.bytes ≡ []
  pub came : wire.came.bytes ≡ []
  pub ended : wire.ended ≡ false

-- no more was sent
abbrev pub IsSameSent : Wire → Wire → Type 0
IsSameSent old new = new.sent.bytes ≡ old.sent.bytes

-- no more came, and its end is told as it was
abbrev pub IsSameCame : Wire → Wire → Type 0
IsSameCame old new = (new.came.bytes ≡ old.came.bytes) × (new.ended ≡ old.ended)

-- a network says so of what this connection carried
abbrev pub Carried : (List ℕ → List ℕ → Bool → Type 0) → Wire → Type 0
Carried carried wire = ∥ carried wire.sent.bytes wire.came.bytes wire.ended ∥₁
