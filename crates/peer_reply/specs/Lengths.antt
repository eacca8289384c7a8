-- What a list of bytes is beside the lengths of values.
use Rattle.std.specs.Prelude.{◌≡◌, ℕ, ◌<◌, ◌≤◌, List, ◌++◌, length, Result, Ok, Err}
use Rattle.std.specs.Borrow.{Bor}
use Rattle.peer_view.specs.Sinks.{MAX_VALUE}
use Rattle.peer_reply.specs.Bodies.{varint}
use Rattle.peer_reply.specs.declared.response.Length.{Length}
use Rattle.peer_reply.specs.declared.response.PbFault.{PbFault}
use Rattle.peer_reply.specs.declared.response.PbFault.TheVariants as fault

-- the bytes go on with more to the varint of a length
pub record IsCutLength (bytes : List ℕ) : Type 0 where
  pub value : ℕ
  pub more : List ℕ
  pub some : 0 < length more
  pub small : value ≤ MAX_VALUE
  pub whole : bytes ++ more ≡ varint value

-- the bytes agree with the varint of no length
abbrev pub HasNoLength : List ℕ → Type 0
HasNoLength bytes = (value : ℕ) (more behind : List ℕ) → value ≤ MAX_VALUE → ¬ (bytes ++ more ≡ varint value ++ behind)

-- the bytes begin with the varint of this length, and then go on with rest
pub record BeginsWithLength (bytes : List ℕ) (value : ℕ) (rest : List ℕ) : Type 0 where
  pub small : value ≤ MAX_VALUE
  pub begins : bytes ≡ varint value ++ rest

-- what a reading of a length answers
abbrev pub ReadsLength : List ℕ → Result Length PbFault → Type 0
ReadsLength bytes (Ok l) = BeginsWithLength bytes l.value l.rest.now
ReadsLength bytes (Err fault.Truncated) = IsCutLength bytes
ReadsLength bytes (Err fault.Tag) = ⊥
ReadsLength bytes (Err fault.Varint) = HasNoLength bytes
ReadsLength bytes (Err fault.Extra) = ⊥

-- so many bytes, fewer, or more
abbrev pub HoldsExactly : ℕ → List ℕ → Result (Bor (List ℕ)) PbFault → Type 0
HoldsExactly count bytes (Ok value) = (value.now ≡ bytes) × (length bytes ≡ count)
HoldsExactly count bytes (Err fault.Truncated) = length bytes < count
HoldsExactly count bytes (Err fault.Tag) = ⊥
HoldsExactly count bytes (Err fault.Varint) = ⊥
HoldsExactly count bytes (Err fault.Extra) = count < length bytes
