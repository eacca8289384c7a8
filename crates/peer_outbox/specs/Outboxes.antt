-- The bytes that wait to be sent, in pieces.
use Rattle.std.specs.Prelude.{◌≡◌, ℕ, ◌<◌, List, [], ◌∷◌, ◌++◌, length, drop}
use Rattle.peer_reply.specs.Joins.{join}

-- all bytes, the first of them that lie together, and those that do behind these
pub record Output : Type 0 where
  pub bytes : List ℕ
  pub front : List ℕ
  pub second : List ℕ

abbrev pub EachHasByte : List (List ℕ) → Type 0
EachHasByte [] = Unit {0}
EachHasByte (p ∷ ps) = (0 < length p) × EachHasByte ps

-- so many bytes of the first piece were sent, and others are left; each piece has a byte
abbrev pub StartsIn : List (List ℕ) → ℕ → Type 0
StartsIn [] start = start ≡ 0
StartsIn (p ∷ ps) start = (start < length p) × EachHasByte ps

abbrev pub front_of : List (List ℕ) → ℕ → List ℕ → List ℕ
front_of [] start last = last
front_of (p ∷ ps) start last = drop start p

abbrev pub second_of : List (List ℕ) → List ℕ → List ℕ
second_of [] last = []
second_of (p ∷ []) last = last
second_of (p ∷ q ∷ ps) last = q

-- pieces of whose first so many bytes were sent, and the bytes behind them
abbrev pub output_of : List (List ℕ) → ℕ → List ℕ → Output
output_of pieces start last =
    record { bytes = drop start (join pieces ++ last); front = front_of pieces start last; second = second_of pieces last }

-- these are the first bytes: some, where there are any
pub record IsFrontOf (front bytes : List ℕ) : Type 0 where
  pub behind : List ℕ
  pub all : bytes ≡ front ++ behind
  pub some : front ≡ [] → bytes ≡ []

-- the bytes are these two, one behind the other, and others behind them
pub record BeginsWithBoth (front second bytes : List ℕ) : Type 0 where
  pub behind : List ℕ
  pub all : bytes ≡ front ++ (second ++ behind)

-- the text ends in the value, and has a byte before it
pub record EndsIn (value text : List ℕ) : Type 0 where
  pub before : List ℕ
  pub some : 0 < length before
  pub all : text ≡ before ++ value
