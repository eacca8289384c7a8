-- Where the type of the source names its answers.
use mathlib.Core.Logic.{∥∥₁_elim, ∥∥₁_map, ∥∥₁_prop}
use Rattle.std.proofs.Common.{ℕ, Bool, List, Option}
use Rattle.peer_source.specs.Answers.{Answer}
use Rattle.peer_known.specs.Names.{AllowsNamed, IsNamed, named_alone}
use Rattle.peer_wish.specs.Allowed.{allows}
use Rattle.peer_wish.specs.declared.end.End.{End}
use Rattle.peer_wish.proofs.ReplyLemmas.{IsReplyOf, replies}
use Rattle.peer_exchange.specs.ExchangeEnds.{IsEnd}
use Rattle.peer_exchange.specs.ExchangeStates.{AreSent}
use Rattle.peer_exchange.specs.declared.exchange_state.ExchangeState.{ExchangeState}
use Rattle.peer_exchange.proofs.ExchangeEndLemmas.{end_under}

module _ (answers may : ℕ → List ℕ → Answer → Type 0) (named : ∥ IsNamed answers may ∥₁) (numbers : List ℕ → Option ℕ) (came sent : List ℕ) where
  -- a reply of an answer that is allowed is one of an answer that the source may give
  carries : (closing bare : Bool) (g : ℕ) (k r : List ℕ) → IsReplyOf (allows (AllowsNamed may)) closing bare g k r → IsReplyOf (allows answers) closing bare g k r
  carries closing bare g k r h = (h.0, ∥∥₁_elim h.1 ∥∥₁_prop (named_alone answers may named g k h.0), h.2)

  pub sent_known : ∥ AreSent numbers (allows (AllowsNamed may)) came sent ∥₁ → ∥ AreSent numbers (allows answers) came sent ∥₁
  sent_known h = ∥∥₁_map h (λ s. record {
    replies = s.replies;
    all = record {
      wishes = s.all.wishes;
      whole = s.all.whole;
      each = replies (allows (AllowsNamed may)) (allows answers) carries s.all.wishes s.replies s.all.each;
    };
    rest = s.rest;
    front = s.front;
  })

  pub end_known : {S : Type 0} (e : ExchangeState S) (r : Option End) → ∥ IsEnd numbers (allows (AllowsNamed may)) came sent e r ∥₁ → ∥ IsEnd numbers (allows answers) came sent e r ∥₁
  end_known e r h = ∥∥₁_map h (end_under numbers came sent (allows (AllowsNamed may)) (allows answers) carries e r)
