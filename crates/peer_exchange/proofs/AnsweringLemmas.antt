-- Laws of what became of a ticket.
use Rattle.std.proofs.Common.{ℕ, List, Some, None, Result, Ok, Err, true, false, refl}
use Rattle.peer_source.specs.Answers.{Answer, Filled}
use Rattle.peer_flight.specs.Claims.{Looked}
use Rattle.peer_flight.specs.declared.claim.Claim.{Claim}
use Rattle.peer_flight.specs.declared.claim.Claim.TheVariants as claim
use Rattle.peer_reply.specs.declared.wish.ReplyForm.{ReplyForm}
use Rattle.peer_wish.proofs.TicketLemmas.{own_of_ready}
use Rattle.peer_exchange.specs.Answering.{AnswersClaim, AnswersFilled}
use Rattle.peer_exchange.specs.declared.outgoing.Answered.{Answered}
use Rattle.peer_exchange.specs.declared.outgoing.Answered.TheVariants as answered

-- only the fill of a flight may be refilled
pub answers_filled : {S E : Type 0} (answers : ℕ → List ℕ → Answer → Type 0) (c : Claim S) (fill : Filled) (form : ReplyForm) (old new : List ℕ) (r : Result Answered E) →
    Looked c None (Some fill) (Some fill) → AnswersFilled answers c fill form old new r → AnswersClaim answers c form old new r
answers_filled answers c fill form old new (Ok (answered.Put false)) came h = (h.0, tt)
answers_filled answers (claim.Ready f) fill form old new (Ok (answered.Put true)) came h = absurd (h.2 (own_of_ready f fill came))
answers_filled answers (claim.Pending flight) fill form old new (Ok (answered.Put true)) came h = (h.0, refl)
answers_filled answers c fill form old new (Ok answered.Waits) came h = absurd h
answers_filled answers c fill form old new (Err fault) came h = h
