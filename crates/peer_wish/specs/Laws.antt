-- Laws of the wishes of a text and of the replies to them.
use Rattle.std.specs.Prelude.{◌≡◌, ℕ, ◌<◌, ◌⊎◌, List, [], ◌++◌, Option}
use Rattle.peer_source.specs.Answers.{Answer}
use Rattle.peer_reply.specs.declared.wish.Wish.{Wish}
use Rattle.peer_flight.specs.Events.{REPLIES}
use Rattle.peer_wish.specs.Wishes.{ClosedWishes, AreFirst, IsWhole}
use Rattle.peer_wish.specs.Allowed.{only}
use Rattle.peer_wish.specs.Replies.{Replies}

-- a list begins with another
abbrev pub BeginsWith : {A : Type 0} → List A → List A → Type 0
BeginsWith {A} xs front = (more : List A) × (xs ≡ front ++ more)

-- a text has one list of wishes at most
abbrev pub HasOneListOfWishes : Type 0
HasOneListOfWishes = (numbers : List ℕ → Option ℕ) (n : ℕ) (t : List ℕ) (ws vs : List Wish) →
    IsWhole numbers n t ws → IsWhole numbers n t vs → ws ≡ vs

-- and it has one, where fewer than the most were answered before it
abbrev pub HasListOfWishes : Type 0
HasListOfWishes = (numbers : List ℕ → Option ℕ) (n : ℕ) (t : List ℕ) → n < REPLIES → (ws : List Wish) × IsWhole numbers n t ws

-- its list of wishes begins with any first wishes of it
abbrev pub BeginsWithFirst : Type 0
BeginsWithFirst = (numbers : List ℕ → Option ℕ) (n : ℕ) (t : List ℕ) (ws vs : List Wish) →
    AreFirst numbers n t ws → IsWhole numbers n t vs → BeginsWith vs ws

-- more bytes only add wishes
abbrev pub KeepsWishes : Type 0
KeepsWishes = (numbers : List ℕ → Option ℕ) (n : ℕ) (t more : List ℕ) (ws : List Wish) →
    AreFirst numbers n t ws → AreFirst numbers n (t ++ more) ws

-- nothing follows a wish that closes, whatever bytes do
abbrev pub EndsWithClosing : Type 0
EndsWithClosing = (numbers : List ℕ → Option ℕ) (n : ℕ) (t more : List ℕ) (ws vs : List Wish) →
    ClosedWishes numbers n t ws → AreFirst numbers n (t ++ more) (ws ++ vs) → vs ≡ []

-- of two lists of replies to first wishes of a text one begins with the other, where a group and a key have one answer
abbrev pub RepliesAgree : Type 0
RepliesAgree = (numbers : List ℕ → Option ℕ) (answer : ℕ → List ℕ → Answer) (n : ℕ) (t : List ℕ) (ws vs : List Wish)
    (rs ss : List (List ℕ)) → AreFirst numbers n t ws → AreFirst numbers n t vs →
    Replies (only answer) ws rs → Replies (only answer) vs ss → BeginsWith ss rs ⊎ BeginsWith rs ss
