-- What a reader over pieces has given, and what it has left.
use Rattle.std.specs.Prelude.{◌≡◌, ℕ, zero, suc, Bool, List, [], ◌∷◌, ◌++◌, take, drop, Vec}
use Rattle.std.specs.declared.alloc.Global.{Global}

-- the bytes given, the pieces left, none of them empty, what comes after the last one, and the counts
pub record Tape : Type 0 where
  pub given : List ℕ
  pub left : List (List ℕ)
  pub fails : Bool
  pub calls : ℕ
  pub ends : ℕ
  pub failures : ℕ

-- a piece before others, where it is not empty
abbrev pub put_piece : List ℕ → List (List ℕ) → List (List ℕ)
put_piece [] ps = ps
put_piece (b ∷ bytes) ps = (b ∷ bytes) ∷ ps

-- the pieces that are not empty
abbrev pub pieces_of : List (Vec ℕ Global) → List (List ℕ)
pieces_of [] = []
pieces_of (p ∷ ps) = put_piece p.items (pieces_of ps)

-- the piece that the next read gives from, if any
abbrev pub first_piece : List (List ℕ) → List ℕ
first_piece [] = []
first_piece (p ∷ ps) = p

-- the pieces left after a read into room for n bytes
abbrev pub after_read : ℕ → List (List ℕ) → List (List ℕ)
after_read n [] = []
after_read n (p ∷ ps) = put_piece (drop n p) ps

-- a read into room for n bytes gives these bytes of the first piece, and leaves what is behind them
pub record GivesPiece (n : ℕ) (bytes : List ℕ) (old new : Tape) : Type 0 where
  pub given : bytes ≡ take n (first_piece old.left)
  pub left : new.left ≡ after_read n old.left
  pub fails : new.fails ≡ old.fails

-- the first `index` pieces, and the first `offset` bytes of the next
abbrev pub given_of : List (Vec ℕ Global) → ℕ → ℕ → List ℕ
given_of [] index offset = []
given_of (p ∷ ps) zero offset = take offset p.items
given_of (p ∷ ps) (suc index) offset = p.items ++ given_of ps index offset

-- what is left behind those
abbrev pub left_of : List (Vec ℕ Global) → ℕ → ℕ → List (List ℕ)
left_of [] index offset = []
left_of (p ∷ ps) zero offset = put_piece (drop offset p.items) (pieces_of ps)
left_of (p ∷ ps) (suc index) offset = left_of ps index offset

-- the bytes of the piece at an index
abbrev pub piece_at : List (Vec ℕ Global) → ℕ → List ℕ
piece_at [] index = []
piece_at (p ∷ ps) zero = p.items
piece_at (p ∷ ps) (suc index) = piece_at ps index
