-- All replies to a text.
use Rattle.std.specs.Prelude.{ℕ, List, Option}
use Rattle.peer_source.specs.Answers.{Answer}
use Rattle.peer_reply.specs.declared.wish.Wish.{Wish}
use Rattle.peer_wish.specs.Wishes.{IsWhole}
use Rattle.peer_wish.specs.Replies.{Replies}

-- all replies to a text under some list of answers, each once, in request order, and nothing after a closing one
pub record AreAllReplies (numbers : List ℕ → Option ℕ) (answers : ℕ → List ℕ → Answer → Type 0)
    (t : List ℕ) (replies : List (List ℕ)) : Type 0 where
  pub wishes : List Wish
  pub whole : IsWhole numbers 0 t wishes
  pub each : Replies answers wishes replies
