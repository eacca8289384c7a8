-- What is next among the bytes held.
use Rattle.std.specs.Prelude.{◌≡◌, ℕ, ◌+◌, ◌<◌, false, List, Option, Some, None}
use Rattle.peer_head.specs.Blocks.{IsFrontLength, IsTooLong, IsUnfinished}
use Rattle.peer_head.specs.declared.fault.HeadFault.TheVariants.{TooLong}
use Rattle.peer_reply.specs.declared.wish.Wish.{Wish}
use Rattle.peer_flight.specs.Events.{REPLIES}
use Rattle.peer_wish.specs.Wishes.{Asks, fault_wish}
use Rattle.peer_wish.specs.declared.wish.Next.{Next}

-- the next wish of the bytes held: that of a head that is too long, or of the first block
pub data IsNextWish (numbers : List ℕ → Option ℕ) (t : List ℕ) : Wish → Type 0 where
  too_long : IsTooLong t → IsNextWish numbers t (fault_wish TooLong false)
  first : (w : Wish) (rest : List ℕ) → Asks numbers t w rest → IsNextWish numbers t w

-- a wish that does not close, after n others
pub record AsksOpen (numbers : List ℕ → Option ℕ) (n : ℕ) (t : List ℕ) (w : Wish) (u : List ℕ) : Type 0 where
  pub asks : Asks numbers t w u
  pub stays_open : w.closing ≡ false
  pub count : n + 1 < REPLIES

-- the next wish, and the length of its block with the pairs before it; or none where the bytes are unfinished
abbrev pub IsNextOf : (List ℕ → Option ℕ) → List ℕ → Option (Next Wish) → Type 0
IsNextOf numbers t None = IsUnfinished t
IsNextOf numbers t (Some next) = IsNextWish numbers t next.wish × IsFrontLength t next.len
