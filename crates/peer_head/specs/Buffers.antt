-- What a buffer holds, and the free part behind it.
use Rattle.std.specs.Prelude.{◌≡◌, ◌≤◌, ℕ, List}
use Rattle.peer_head.specs.Blocks.{LIMIT}

-- the bytes held, and the bytes of the room behind them
pub record HeldBytes : Type 0 where
  pub held : List ℕ
  pub free : List ℕ

-- where the bytes held lie in a room for one head
pub record IsWithinRoom (start end room : ℕ) : Type 0 where
  pub ordered : start ≤ end
  pub within : end ≤ room
  pub room_is : room ≡ LIMIT
