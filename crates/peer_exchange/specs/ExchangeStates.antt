-- What holds of a connection at every moment, of the bytes that came and those that were sent.
use Rattle.std.specs.Prelude.{◌≡◌, ◌⊎◌, ℕ, ◌+◌, ◌-◌, ◌<◌, ◌≤◌, Bool, ◌&&◌, ◌||◌, not, ◌==◌, leb, List, [], ◌∷◌, ◌++◌, length, Option}
use Rattle.std.specs.VecDeque.{deque_len}
use Rattle.peer_source.specs.Answers.{Answer}
use Rattle.peer_head.specs.Blocks.{LIMIT}
use Rattle.peer_reply.specs.declared.wish.Wish.{Wish}
use Rattle.peer_wish.specs.Wishes.{AreFirst}
use Rattle.peer_wish.specs.Replies.{Replies}
use Rattle.peer_reply.specs.Joins.{join}
use Rattle.peer_wish.specs.AllReplies.{AreAllReplies}
use Rattle.peer_wish.specs.Tickets.{wishes_by}
use Rattle.peer_exchange.specs.Intakes.{Judged, is_open, is_judging}
use Rattle.peer_exchange.specs.declared.exchange_state.ExchangeState.{ExchangeState}

-- of these replies the last bytes are few: fewer than 65,536, or so without the last reply
abbrev pub AreFew : List (List ℕ) → List ℕ → Type 0
AreFew replies bytes = (length bytes < 65536)
    ⊎ ((first : List (List ℕ)) × (last : List ℕ) × (replies ≡ first ++ last ∷ []) × (length bytes < 65536 + length last))

module _ {S : Type 0} where
  -- more bytes may come
  abbrev pub takes_bytes : ExchangeState S → Bool
  takes_bytes e = is_open e.intake.stage

  -- how many have room
  abbrev pub room_of : ExchangeState S → ℕ
  room_of e = LIMIT - length e.intake.held

  -- the replies that wait to be sent
  abbrev pub unsent : ExchangeState S → List ℕ
  unsent e = e.outgoing.out.bytes

  -- the first of them, which are lent
  abbrev pub lent : ExchangeState S → List ℕ
  lent e = e.outgoing.out.front

  -- .. and those that lie together behind them
  abbrev pub lent_behind : ExchangeState S → List ℕ
  lent_behind e = e.outgoing.out.second

  -- nothing is put until output was sent
  abbrev pub has_much_output : ExchangeState S → Bool
  has_much_output e = leb 65536 (length (unsent e))

  -- nothing is asked: as many tickets wait as may, or much output
  abbrev pub is_full : ExchangeState S → Bool
  is_full e = leb e.window.tickets (deque_len e.waiting) || has_much_output e

  -- no more bytes come or are to be sent, and no ticket waits
  abbrev pub is_over : ExchangeState S → Bool
  is_over e = not (is_judging e.intake.stage) && (deque_len e.waiting == 0) && (length (unsent e) == 0)

  -- these bytes came, and these were sent: of the wishes of what came, the replies to the first are sent or wait to be sent,
  -- the tickets of the next wait, and `more` were judged last and have no ticket yet; and few wait
  pub record Upholds (numbers : List ℕ → Option ℕ) (answers : ℕ → List ℕ → Answer → Type 0) (came sent : List ℕ)
      (more : List Wish) (e : ExchangeState S) : Type 0 where
    pub answered : List Wish
    pub judged : Judged numbers came (answered ++ (wishes_by e.waiting.items ++ more)) e.intake
    pub replies : List (List ℕ)
    pub each : Replies answers answered replies
    pub put : sent ++ unsent e ≡ join replies
    pub waiting : deque_len e.waiting ≤ 64
    pub unsent : AreFew replies (unsent e)

  -- whatever came and was sent, it still is what came and was sent
  pub record Keeps (numbers : List ℕ → Option ℕ) (answers : ℕ → List ℕ → Answer → Type 0) (old new : ExchangeState S) : Type 0 where
    pub keeps : (came sent : List ℕ) → Upholds numbers answers came sent [] old → Upholds numbers answers came sent [] new

  -- whatever came and was sent, these bytes came behind it ..
  abbrev pub Receives : (ℕ → List ℕ → Answer → Type 0) → ExchangeState S → ExchangeState S → List ℕ → Type 0
  Receives answers old new more =
      (numbers : List ℕ → Option ℕ) (came sent : List ℕ) → Upholds numbers answers came sent [] old
      → Upholds numbers answers (came ++ more) sent [] new

  -- .. these bytes were sent behind it ..
  abbrev pub Sends : (ℕ → List ℕ → Answer → Type 0) → ExchangeState S → ExchangeState S → List ℕ → Type 0
  Sends answers old new more =
      (numbers : List ℕ → Option ℕ) (came sent : List ℕ) → Upholds numbers answers came sent [] old
      → Upholds numbers answers came (sent ++ more) [] new

  -- .. or wishes that were judged last are given up
  abbrev pub GivesUp : (ℕ → List ℕ → Answer → Type 0) → ExchangeState S → ExchangeState S → Type 0
  GivesUp answers old new =
      (numbers : List ℕ → Option ℕ) (came sent : List ℕ) (more : List Wish) → Upholds numbers answers came sent more old
      → Upholds numbers answers came sent [] new

  -- at most 16,384 bytes of a head are held and 64 tickets wait; and what was sent and what is unsent are the replies to the
  -- first wishes of what came, of which fewer than 65,536 bytes are unsent, or so without the last reply
  pub record HoldsLittle (numbers : List ℕ → Option ℕ) (answers : ℕ → List ℕ → Answer → Type 0) (came sent : List ℕ)
      (e : ExchangeState S) : Type 0 where
    pub held : length e.intake.held ≤ 16384
    pub waiting : deque_len e.waiting ≤ 64
    pub wishes : List Wish
    pub are : AreFirst numbers 0 came wishes
    pub replies : List (List ℕ)
    pub each : Replies answers wishes replies
    pub put : sent ++ unsent e ≡ join replies
    pub unsent : AreFew replies (unsent e)

-- what was sent is a front of all replies to what came
pub record AreSent (numbers : List ℕ → Option ℕ) (answers : ℕ → List ℕ → Answer → Type 0) (came sent : List ℕ) : Type 0 where
  pub replies : List (List ℕ)
  pub all : AreAllReplies numbers answers came replies
  pub rest : List ℕ
  pub front : sent ++ rest ≡ join replies

module _ {S : Type 0} where
  -- where these are the numbers, what was sent are replies under these answers ..
  abbrev pub SaysSent : (List ℕ → Option ℕ) → (ℕ → List ℕ → Answer → Type 0) → (ℕ → List ℕ → Answer → Type 0) → ExchangeState S → Type 0
  SaysSent numbers answers under e = (came sent : List ℕ) → Upholds numbers answers came sent [] e → AreSent numbers under came sent

  -- .. and it holds little
  abbrev pub SaysLittle : (List ℕ → Option ℕ) → (ℕ → List ℕ → Answer → Type 0) → ExchangeState S → Type 0
  SaysLittle numbers answers e = (came sent : List ℕ) → Upholds numbers answers came sent [] e → HoldsLittle numbers answers came sent e
