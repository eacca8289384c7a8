-- How an exchange ended, by what holds of it.
use Rattle.std.proofs.Common.{◌≡◌, ◌∙◌, ℕ, true, false, List, [], ◌++◌, sym, ap, subst, inl, inr, append-nil, Option, Some, None, Bool, IsTrue, ◌↔◌}
use Rattle.std.proofs.lemmas.Bool.{true≢false}
use Rattle.peer_source.specs.Answers.{Answer}
use Rattle.peer_head.specs.Pairs.{ArePairs}
use Rattle.peer_wish.specs.Wishes.{AreFirst}
use Rattle.peer_wish.specs.Replies.{AreReplies}
use Rattle.peer_wish.specs.Ends.{AreToCut, IsAnswered}
use Rattle.peer_wish.specs.declared.end.End.{End}
use Rattle.peer_wish.specs.declared.end.End.TheVariants as end
use Rattle.peer_wish.proofs.ReplyLemmas.{IsReplyOf, answered_under}
use Rattle.peer_exchange.specs.Intakes.{AreJudged}
use Rattle.peer_exchange.specs.ExchangeStates.{is_over, Upholds}
use Rattle.peer_exchange.specs.ExchangeEnds.{AreClean, IsEnd}
use Rattle.peer_exchange.specs.declared.exchange_state.ExchangeState.{ExchangeState}
use Rattle.peer_exchange.specs.declared.intake.GivenUp.{GivenUp}
use Rattle.peer_exchange.specs.declared.intake.Stage.{Stage}
use Rattle.peer_exchange.specs.declared.intake.Stage.TheVariants as stage
use Rattle.peer_exchange.proofs.ExchangeLemmas.{none_waits, when_over}

module _ {S : Type 0} {numbers : List ℕ → Option ℕ} {answers : ℕ → List ℕ → Answer → Type 0} (e : ExchangeState S) {came sent : List ℕ} (over : is_over e ≡ true) (h : Upholds numbers answers came sent [] e) where
  -- what was sent is the replies to the wishes that were judged
  judged_sent : AreReplies answers h.answered sent
  judged_sent =
      let done = when_over e over in
      record { replies = h.replies; each = h.each; all = sym (append-nil sent) ∙ ap (λ v. sent ++ v) (sym done.1) ∙ h.put }

  judged_answered : AreJudged numbers e.intake.stage came h.answered e.intake.count e.intake.held
  judged_answered =
      let same = sym (none_waits h.answered e.waiting.items (when_over e over).0) in
      subst (λ ws. AreJudged numbers e.intake.stage came ws e.intake.count e.intake.held) same h.judged.judged

  judged_at : (st : Stage) → e.intake.stage ≡ st → AreJudged numbers st came h.answered e.intake.count e.intake.held
  judged_at st is = subst (λ v. AreJudged numbers v came h.answered e.intake.count e.intake.held) is judged_answered

  pub end_closed : e.intake.stage ≡ stage.Closed → IsAnswered answers (AreClean numbers came) sent
  end_closed is = record { wishes = h.answered; are = inl (judged_at stage.Closed is); replies = judged_sent }

  pub end_clean : e.intake.stage ≡ stage.Ended → ArePairs e.intake.held → IsAnswered answers (AreClean numbers came) sent
  end_clean is only = record { wishes = h.answered; are = inr (e.intake.held, judged_at stage.Ended is, only); replies = judged_sent }

  pub end_cut : e.intake.stage ≡ stage.Ended → ¬ (ArePairs e.intake.held) → IsAnswered answers (AreToCut numbers 0 came) sent
  end_cut is inside = record { wishes = h.answered; are = (e.intake.held, judged_at stage.Ended is, inside); replies = judged_sent }

  pub end_given_up : (why : GivenUp) → e.intake.stage ≡ stage.GivenUp why → IsAnswered answers (AreFirst numbers 0 came) sent
  end_given_up why is = record { wishes = h.answered; are = judged_at (stage.GivenUp why) is; replies = judged_sent }

-- a test that fails says that what it tests is not so
pub not_so : (b : Bool) (P : Type 0) → (IsTrue b ↔ P) → b ≡ false → ¬ P
not_so true P h e p = true≢false e
not_so false P h e p = absurd (true≢false (sym (h.1 p)))

module _ (numbers : List ℕ → Option ℕ) (came sent : List ℕ) (A B : ℕ → List ℕ → Answer → Type 0)
    (carries : (closing bare : Bool) (g : ℕ) (k r : List ℕ) → IsReplyOf A closing bare g k r → IsReplyOf B closing bare g k r) where
  pub end_under : {S : Type 0} (e : ExchangeState S) (r : Option End) → IsEnd numbers A came sent e r → IsEnd numbers B came sent e r
  end_under e None h = h
  end_under e (Some end.Clean) h = (h.0, answered_under A B carries (AreClean numbers came) sent h.1)
  end_under e (Some end.Cut) h = (h.0, answered_under A B carries (AreToCut numbers 0 came) sent h.1)
  end_under e (Some end.Memory) h = (h.0, answered_under A B carries (AreFirst numbers 0 came) sent h.1)
  end_under e (Some end.Worn) h = (h.0, answered_under A B carries (AreFirst numbers 0 came) sent h.1)
  end_under e (Some end.ReadFault) h = h
  end_under e (Some end.WriteFault) h = h
  end_under e (Some end.Spent) h = h
