-- What a block is as a request head: a request line, fields and a blank line (RFC 9112, sections 3
-- and 5), by the grammar that httparse states for its default configuration. Refused beside it are
-- a CR or an LF alone (section 2.2), bytes of a target that are not visible ASCII (section 3.2), and
-- more than 64 fields, a limit of our own.
use Rattle.std.specs.Prelude.{◌≡◌, ◌≢◌, ◌==◌, ℕ, ◌+◌, ◌≤◌, ◌<◌, List, [], length, map, slice_index, All}
use Rattle.httparse.specs.Grammar.{RequestHead, ReadsRequest, Field, field_value}

-- a field: its name, and its value without the white space around it
pub record HeadField : Type 0 where
  pub name : List ℕ
  pub value : List ℕ

-- what a head says: the version is HTTP/1.0 or HTTP/1.1, as `minor` is 0 or 1
pub record HeadParts : Type 0 where
  pub method : List ℕ
  pub target : List ℕ
  pub minor : ℕ
  pub fields : List HeadField

-- a field of the grammar as a field of a head
abbrev pub field_of : Field → HeadField
field_of f = record { name = f.name; value = field_value f }

-- the parts of a head of the grammar
abbrev pub parts_of : RequestHead → HeadParts
parts_of h = record { method = h.method; target = h.target; minor = h.minor; fields = map field_of h.fields }

-- CR and LF stand in pairs only: an LF follows each CR, and a CR stands before each LF
pub record IsPaired (bytes : List ℕ) : Type 0 where
  pub cr : (i : ℕ) → slice_index bytes i ≡ 13 → slice_index bytes (i + 1) ≡ 10
  pub lf : (i : ℕ) → slice_index bytes (i + 1) ≡ 10 → slice_index bytes i ≡ 13
  pub first : slice_index bytes 0 ≢ 10

-- each byte from a place up to another is a CR exactly where the next is an LF
abbrev pub NeighboursMatch : List ℕ → ℕ → ℕ → Type 0
NeighboursMatch bytes from to =
    (k : ℕ) → from ≤ k → k < to → (slice_index bytes k == 13) ≡ (slice_index bytes (k + 1) == 10)

-- a byte of visible ASCII
abbrev pub IsVisible : ℕ → Type 0
IsVisible b = (33 ≤ b) × (b ≤ 126)

-- how many fields a head may have
abbrev pub MAX_FIELDS : ℕ
MAX_FIELDS = 64

-- the block is a head with these parts
pub record IsHead (block : List ℕ) (p : HeadParts) : Type 0 where
  pub head : RequestHead
  pub reads : ReadsRequest block head []
  pub parts : parts_of head ≡ p
  pub paired : IsPaired block
  pub visible : All IsVisible p.target
  pub few : length p.fields ≤ MAX_FIELDS

-- the block is no head
abbrev pub HasNoHead : List ℕ → Type 0
HasNoHead block = (p : HeadParts) → ¬ (IsHead block p)
