-- What was judged of the bytes that came to a connection.
use Rattle.std.specs.Prelude.{◌≡◌, ◌⊎◌, ℕ, Bool, true, false, List, [], ◌∷◌, ◌++◌, length, Option, Result, Ok, Err}
use Rattle.peer_head.specs.Blocks.{IsFrontLength}
use Rattle.peer_reply.specs.declared.wish.Wish.{Wish}
use Rattle.peer_wish.specs.Wishes.{OpenWishes, ClosedWishes, AreFirst, AreAll, closes_after}
use Rattle.peer_wish.specs.Nexts.{IsNextWish}
use Rattle.peer_exchange.specs.declared.intake.GivenUp.{GivenUp}
use Rattle.peer_exchange.specs.declared.intake.Intake.{Intake}
use Rattle.peer_exchange.specs.declared.intake.Stage.{Stage}
use Rattle.peer_exchange.specs.declared.intake.Stage.TheVariants as stage

-- more bytes may come
abbrev pub is_open : Stage → Bool
is_open stage.Open = true
is_open _ = false

-- what is held is judged
abbrev pub is_judging : Stage → Bool
is_judging stage.Open = true
is_judging stage.Told = true
is_judging _ = false

abbrev pub is_given_up : Stage → Bool
is_given_up (stage.GivenUp why) = true
is_given_up _ = false

-- it was given up for this
abbrev pub IsGivenUpFor : Stage → GivenUp → Type 0
IsGivenUpFor st why = st ≡ stage.GivenUp why

-- the stage stays, or a request closes, or all whole heads were judged where the client's end was told
abbrev pub JudgesOn : Stage → Stage → Type 0
JudgesOn old new = (new ≡ old) ⊎ (is_judging old ≡ true) × (new ≡ stage.Closed) ⊎ (old ≡ stage.Told) × (new ≡ stage.Ended)

-- it was judged so, or given up now for this
abbrev pub GoesOn : {T : Type 0} → Stage → Stage → Result T GivenUp → Type 0
GoesOn old new (Ok value) = JudgesOn old new
GoesOn old new (Err why) = IsGivenUpFor new why

-- the stage behind a request that closes, or does not
abbrev pub giving : Bool → Stage → Stage
giving true st = stage.Closed
giving false st = st

-- the stage behind the client's end
abbrev pub told : Stage → Stage
told stage.Open = stage.Told
told st = st

-- the stage where what is held is unfinished
abbrev pub needing : Stage → Stage
needing stage.Told = stage.Ended
needing st = st

-- no byte came yet
pub record IsNewIntake (q : Intake) : Type 0 where
  pub held : q.held ≡ []
  pub count : q.count ≡ 0
  pub stage : q.stage ≡ stage.Open

-- the first wishes of a text, none of which closes, so many, and what is held behind them
pub record AreOpen (numbers : List ℕ → Option ℕ) (came : List ℕ) (ws : List Wish) (count : ℕ) (held : List ℕ) : Type 0 where
  pub opens : OpenWishes numbers 0 came ws held
  pub counted : count ≡ length ws

-- by stage, what the wishes are of the bytes that came
abbrev pub AreJudged : (List ℕ → Option ℕ) → Stage → List ℕ → List Wish → ℕ → List ℕ → Type 0
AreJudged numbers stage.Open came ws count held = AreOpen numbers came ws count held
AreJudged numbers stage.Told came ws count held = AreOpen numbers came ws count held
AreJudged numbers stage.Ended came ws count held = AreAll numbers 0 came ws held
AreJudged numbers stage.Closed came ws count held = ClosedWishes numbers 0 came ws
AreJudged numbers (stage.GivenUp why) came ws count held = AreFirst numbers 0 came ws

-- these bytes came, and these wishes of them were given
pub record Judged (numbers : List ℕ → Option ℕ) (came : List ℕ) (ws : List Wish) (q : Intake) : Type 0 where
  pub judged : AreJudged numbers q.stage came ws q.count q.held

-- whatever came and was given, it still is what came and was given
abbrev pub KeepsJudged : (List ℕ → Option ℕ) → Intake → Intake → Type 0
KeepsJudged numbers old new = (came : List ℕ) (ws : List Wish) → Judged numbers came ws old → Judged numbers came ws new

-- whatever came and was given, these bytes came behind it ..
abbrev pub JudgesMore : Intake → Intake → List ℕ → Type 0
JudgesMore old new more =
    (numbers : List ℕ → Option ℕ) (came : List ℕ) (ws : List Wish) → Judged numbers came ws old → Judged numbers (came ++ more) ws new

-- .. or the last wishes are dropped
abbrev pub JudgesFewer : Intake → Intake → Type 0
JudgesFewer old new = (numbers : List ℕ → Option ℕ) (came : List ℕ) (ws vs : List Wish)
    → Judged numbers came (ws ++ vs) old → Judged numbers came ws new

-- one wish more was given
abbrev pub JudgesOne : (List ℕ → Option ℕ) → Intake → Intake → Wish → Type 0
JudgesOne numbers old new w =
    (came : List ℕ) (ws : List Wish) → Judged numbers came ws old → Judged numbers came (ws ++ w ∷ []) new

-- the next wish was given, whose block has so many bytes, with what its reply does to the connection
abbrev pub JudgesNext : Intake → Intake → ℕ → Bool → Type 0
JudgesNext old new len closing = (numbers : List ℕ → Option ℕ) (w : Wish) → IsNextWish numbers old.held w → IsFrontLength old.held len
    → closing ≡ closes_after old.count w.closing → JudgesOne numbers old new (record w { closing = closing })
