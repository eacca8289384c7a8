-- What a buffer is once the loan of its free part is over.
use Rattle.std.specs.Prelude.{ℕ, List, ◌++◌, take, drop, length}
use Rattle.std.specs.Borrow.{Lends, MutBor, Fml, u8, Array}
use Rattle.peer_head.specs.Buffers.{HeldBytes}
use Rattle.peer_head.specs.contracts.buffer.HeadBuf.{the_row}

-- ws, as long as xs: cut, or filled up from xs
abbrev pub fitted : List ℕ → List ℕ → List ℕ
fitted xs ws = take (length xs) (ws ++ drop (length ws) xs)

-- the buffer ends with the last value of what was lent as its free part
abbrev pub LendsFree : MutBor HeldBytes → MutBor (List ℕ) → Fml
LendsFree s r = Lends the_row (Array u8 0) s r (λ w. record { held = s.now.held; free = fitted s.now.free w })
