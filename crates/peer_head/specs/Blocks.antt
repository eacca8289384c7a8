-- Where the first block of a text ends: the pairs CR LF before it are skipped, and it goes up to its
-- first blank line (RFC 9112, section 2.2). The limit is our own.
use Rattle.std.specs.Prelude.{◌≡◌, ◌≢◌, ℕ, zero, suc, ◌+◌, ◌*◌, ◌<◌, ◌≤◌, List, [], ◌∷◌, ◌++◌, length, take, drop}

-- how long a block and the pairs before it may be together
abbrev pub LIMIT : ℕ
LIMIT = 16384

-- CR LF
abbrev pub pair : List ℕ
pair = 13 ∷ 10 ∷ []

-- CR LF CR LF: the end of a line, and an empty line
abbrev pub blank_line : List ℕ
blank_line = 13 ∷ 10 ∷ 13 ∷ 10 ∷ []

-- so many pairs
abbrev pub pairs : ℕ → List ℕ
pairs zero = []
pairs (suc n) = 13 ∷ 10 ∷ pairs n

-- a text is pairs, then a block within the limit, and then rest
pub record Begins (t block rest : List ℕ) : Type 0 where
  pub skipped : ℕ
  pub front : List ℕ
  pub cut : t ≡ pairs skipped ++ (block ++ rest)
  pub no_pair : take 2 block ≢ pair
  pub ends : block ≡ front ++ blank_line
  pub first : (i : ℕ) → i < length front → take 4 (drop i block) ≢ blank_line
  pub fits : 2 * skipped + length block ≤ LIMIT

-- a text begins with a block
abbrev pub HasBlock : List ℕ → Type 0
HasBlock t = (block : List ℕ) × ((rest : List ℕ) × Begins t block rest)

-- the first block and the pairs before it take n bytes, if the text begins with a block
abbrev pub IsFrontLength : List ℕ → ℕ → Type 0
IsFrontLength t n = (block rest : List ℕ) → Begins t block rest → (n ≤ length t) × (rest ≡ drop n t)

-- a text begins with no block
abbrev pub HasNoBlock : List ℕ → Type 0
HasNoBlock t = (block rest : List ℕ) → ¬ (Begins t block rest)

-- no block is there, and more bytes will not bring one
pub record IsTooLong (t : List ℕ) : Type 0 where
  pub long : LIMIT ≤ length t
  pub none : HasNoBlock t

-- no block is there yet
pub record IsUnfinished (t : List ℕ) : Type 0 where
  pub short : length t < LIMIT
  pub none : HasNoBlock t

-- the first bytes of a text, so many, are its leading pairs
pub record IsPastPairs (t : List ℕ) (at : ℕ) : Type 0 where
  pub count : ℕ
  pub at_is : at ≡ 2 * count
  pub within : at ≤ length t
  pub cut : t ≡ pairs count ++ drop at t
  pub no_pair : take 2 (drop at t) ≢ pair
