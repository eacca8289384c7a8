-- What became of a ticket: its reply was put behind the bytes that wait to be sent, or nothing was.
use Rattle.std.specs.Prelude.{◌≡◌, ℕ, Bool, true, false, List, ◌++◌, Result, Ok, Err}
use Rattle.std.specs.Bool.{OnFalse, OnTrue}
use Rattle.peer_source.specs.Answers.{Answer, Filled}
use Rattle.peer_flight.specs.declared.claim.Claim.{Claim}
use Rattle.peer_flight.specs.declared.claim.Claim.TheVariants as claim
use Rattle.peer_wish.specs.declared.ticket.Body.{Body}
use Rattle.peer_wish.specs.declared.ticket.Body.TheVariants as ticket
use Rattle.peer_wish.specs.declared.ticket.Ticket.{Ticket}
use Rattle.peer_reply.specs.declared.wish.ReplyForm.{ReplyForm}
use Rattle.peer_reply.specs.declared.wish.Wish.{Wish}
use Rattle.peer_wish.specs.Replies.{IsReply}
use Rattle.peer_wish.specs.Strangers.{IsOwn}
use Rattle.peer_wish.specs.Tickets.{claim_wish, wish_by}
use Rattle.peer_exchange.specs.declared.outgoing.Answered.{Answered}
use Rattle.peer_exchange.specs.declared.outgoing.Answered.TheVariants as answered

-- a text was put, or memory refused
abbrev pub PutsText : {E : Type 0} → List ℕ → List ℕ → List ℕ → Result Unit E → Type 0
PutsText text old new (Ok done) = new ≡ old ++ text
PutsText text old new (Err fault) = new ≡ old

-- a reply to this wish was put
pub record IsReplyPut (answers : ℕ → List ℕ → Answer → Type 0) (w : Wish) (old new : List ℕ) : Type 0 where
  pub reply : List ℕ
  pub replies : IsReply answers w reply
  pub put : new ≡ old ++ reply

-- a reply to this wish was put, or memory refused
abbrev pub PutsReplyTo : {E : Type 0} → (ℕ → List ℕ → Answer → Type 0) → Wish → List ℕ → List ℕ → Result Unit E → Type 0
PutsReplyTo answers w old new (Ok done) = IsReplyPut answers w old new
PutsReplyTo answers w old new (Err fault) = new ≡ old

module _ {S : Type 0} where
  -- the claim is of a flight, whose fill was not there when it was asked for
  abbrev pub is_pending : Claim S → Bool
  is_pending (claim.Ready fill) = false
  is_pending (claim.Pending flight) = true

  abbrev pub waits_on_flight : Body S → Bool
  waits_on_flight (ticket.Fault f) = false
  waits_on_flight (ticket.Claim c) = is_pending c

  -- this fill came for the claim, and a reply to the claim's wish was put: it was refilled exactly where the fill is of another
  -- place; or memory was refused
  abbrev pub AnswersFilled : {E : Type 0} → (ℕ → List ℕ → Answer → Type 0) → Claim S → Filled → ReplyForm → List ℕ → List ℕ
      → Result Answered E → Type 0
  AnswersFilled answers c fill form old new (Ok (answered.Put refilled)) = IsReplyPut answers (claim_wish c form) old new
      × OnFalse refilled (IsOwn c fill) × OnTrue refilled (¬ (IsOwn c fill))
  AnswersFilled answers c fill form old new (Ok answered.Waits) = ⊥
  AnswersFilled answers c fill form old new (Err fault) = new ≡ old

  -- a reply to the wish of this claim was put, and refilled only where it is a flight; or its fill is not there yet, or
  -- memory was refused
  abbrev pub AnswersClaim : {E : Type 0} → (ℕ → List ℕ → Answer → Type 0) → Claim S → ReplyForm → List ℕ → List ℕ
      → Result Answered E → Type 0
  AnswersClaim answers c form old new (Ok (answered.Put refilled)) = IsReplyPut answers (claim_wish c form) old new
      × OnTrue refilled (is_pending c ≡ true)
  AnswersClaim answers c form old new (Ok answered.Waits) = (new ≡ old) × (is_pending c ≡ true)
  AnswersClaim answers c form old new (Err fault) = new ≡ old

  -- a reply to this ticket was put, and refilled only where it is of a flight; or its fill is not there yet, or memory was refused
  abbrev pub Answers : {E : Type 0} → (ℕ → List ℕ → Answer → Type 0) → Ticket S → List ℕ → List ℕ → Result Answered E → Type 0
  Answers answers t old new (Ok (answered.Put refilled)) = IsReplyPut answers (wish_by t) old new
      × OnTrue refilled (waits_on_flight t.body ≡ true)
  Answers answers t old new (Ok answered.Waits) = (new ≡ old) × (waits_on_flight t.body ≡ true)
  Answers answers t old new (Err fault) = new ≡ old
