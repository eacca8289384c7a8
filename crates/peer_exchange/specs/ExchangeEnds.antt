-- How an exchange ended, by the bytes that came and those that were sent (RFC 9112, sections 9.3 and 9.6).
use Rattle.std.specs.Prelude.{◌≡◌, ℕ, true, false, ◌⊎◌, List, [], Option, Some, None}
use Rattle.peer_source.specs.Answers.{Answer}
use Rattle.peer_reply.specs.declared.wish.Wish.{Wish}
use Rattle.peer_wish.specs.Wishes.{ClosedWishes, AreFirst}
use Rattle.peer_wish.specs.Ends.{AreToEnd, AreToCut, IsAnswered}
use Rattle.peer_wish.specs.declared.end.End.{End}
use Rattle.peer_wish.specs.declared.end.End.TheVariants as end
use Rattle.peer_exchange.specs.ExchangeStates.{is_over, Upholds}
use Rattle.peer_exchange.specs.declared.exchange_state.ExchangeState.{ExchangeState}
use Rattle.peer_exchange.specs.declared.intake.GivenUp.TheVariants as given_up
use Rattle.peer_exchange.specs.declared.intake.Stage.{Stage}
use Rattle.peer_exchange.specs.declared.intake.Stage.TheVariants as stage

-- the end by the stage: what was given up ended as it was given up, and nothing else did
abbrev pub IsEndAt : Stage → End → Type 0
IsEndAt (stage.GivenUp given_up.Memory) e = e ≡ end.Memory
IsEndAt (stage.GivenUp given_up.Worn) e = e ≡ end.Worn
IsEndAt stage.Closed e = e ≡ end.Clean
IsEndAt stage.Ended e = (e ≡ end.Clean) ⊎ (e ≡ end.Cut)
IsEndAt _ e = ⊥

-- they are all wishes of what came: the last one closes, or the client's end came behind pairs alone
abbrev pub AreClean : (List ℕ → Option ℕ) → List ℕ → List Wish → Type 0
AreClean numbers came ws = ClosedWishes numbers 0 came ws ⊎ AreToEnd numbers 0 came ws

module _ (numbers : List ℕ → Option ℕ) (answers : ℕ → List ℕ → Answer → Type 0) (came sent : List ℕ) where
  -- an end: the first wishes were answered, and all of them where it was not given up
  abbrev pub EndsWith : End → Type 0
  EndsWith end.Clean = IsAnswered answers (AreClean numbers came) sent
  EndsWith end.Cut = IsAnswered answers (AreToCut numbers 0 came) sent
  EndsWith end.Memory = IsAnswered answers (AreFirst numbers 0 came) sent
  EndsWith end.Worn = IsAnswered answers (AreFirst numbers 0 came) sent
  EndsWith _ = ⊥

  -- how it ended, none where it is not over
  abbrev pub IsEnd : {S : Type 0} → ExchangeState S → Option End → Type 0
  IsEnd e None = is_over e ≡ false
  IsEnd e (Some end) = (is_over e ≡ true) × EndsWith end

-- where these are the numbers, it ended so under these answers
abbrev pub SaysEnd : {S : Type 0} → (List ℕ → Option ℕ) → (ℕ → List ℕ → Answer → Type 0) → (ℕ → List ℕ → Answer → Type 0)
    → ExchangeState S → Option End → Type 0
SaysEnd numbers answers under e result =
    (came sent : List ℕ) → Upholds numbers answers came sent [] e → IsEnd numbers under came sent e result
