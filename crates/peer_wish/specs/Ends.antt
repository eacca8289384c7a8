-- How the wishes of a text end, and that some were answered (RFC 9112, sections 9.3 and 9.6).
use Rattle.std.specs.Prelude.{ℕ, List, Option}
use Rattle.peer_head.specs.Pairs.{ArePairs}
use Rattle.peer_source.specs.Answers.{Answer}
use Rattle.peer_reply.specs.declared.wish.Wish.{Wish}
use Rattle.peer_wish.specs.Wishes.{AreAll}
use Rattle.peer_wish.specs.Replies.{AreReplies}

-- all wishes of a text, after n others, none of which closes, where the text ends behind pairs alone ..
abbrev pub AreToEnd : (List ℕ → Option ℕ) → ℕ → List ℕ → List Wish → Type 0
AreToEnd numbers n t ws = (rest : List ℕ) × AreAll numbers n t ws rest × ArePairs rest

-- .. or inside a head
abbrev pub AreToCut : (List ℕ → Option ℕ) → ℕ → List ℕ → List Wish → Type 0
AreToCut numbers n t ws = (rest : List ℕ) × AreAll numbers n t ws rest × (¬ (ArePairs rest))

-- o is the replies to wishes of which this holds
pub record IsAnswered (answers : ℕ → List ℕ → Answer → Type 0) (AreOf : List Wish → Type 0) (o : List ℕ) : Type 0 where
  pub wishes : List Wish
  pub are : AreOf wishes
  pub replies : AreReplies answers wishes o
