-- What a fetch by a request may answer, and what a source over origins may.
use Rattle.std.specs.Prelude.{◌≡◌, ◌≢◌, ◌≤◌, ℕ, Bool, false, List, ◌++◌, length, Option, Some, None, slice_get}
use Rattle.std.proofs.Common.{refl, sym, subst}
use Rattle.peer_view.specs.Sinks.{MAX_VALUE}
use Rattle.peer_source.specs.Answers.{Answer, Found, Failed}
use Rattle.peer_http.specs.Replies.{HasHead, IsReply}
use Rattle.peer_origin.specs.Endpoints.{request_at}
use Rattle.peer_origin.specs.Origins.{IsOriginAnswer}
use Rattle.peer_origin.specs.Texts.{text_of}
use Rattle.peer_origin.specs.declared.fault.FetchFault.{FetchFault}
use Rattle.peer_origin.specs.declared.fault.FetchFault.TheVariants as fault
use Rattle.peer_origin.specs.declared.origin.Origin.{Origin}

-- a network says that one of its connections carried this request whole in its present use, and nothing else, and the value is the
-- content of a whole reply with status 200 that came there; if the end was not told, it is that whatever comes after
pub record IsFetched (carried : List ℕ → List ℕ → Bool → Type 0) (request value : List ℕ) : Type 0 where
  pub came : List ℕ
  pub ended : Bool
  pub told : ∥ carried request came ended ∥₁
  pub reply : ∥ IsReply came 200 value ∥₁
  pub stands : ended ≡ false → (later : List ℕ) → ∥ IsReply (came ++ later) 200 value ∥₁

-- a network says that one of its connections carried this request whole in its present use, and nothing else, and the whole head of a
-- final reply with this status came there, which is not 200
pub record IsStatusTold (carried : List ℕ → List ℕ → Bool → Type 0) (request : List ℕ) (status : ℕ) : Type 0 where
  pub came : List ℕ
  pub ended : Bool
  pub told : ∥ carried request came ended ∥₁
  pub head : ∥ HasHead came status ∥₁
  pub other : status ≢ 200

-- if a fault tells a status, this holds of it
abbrev pub IfStatus : FetchFault → (ℕ → Type 0) → Type 0
IfStatus fault.Unreached P = Unit {0}
IfStatus fault.Late P = Unit {0}
IfStatus fault.Lost P = Unit {0}
IfStatus fault.Malformed P = Unit {0}
IfStatus (fault.Status status) P = P status
IfStatus fault.TooLong P = Unit {0}
IfStatus fault.Memory P = Unit {0}

-- what a fetch by this request may answer: a value that it found, or the text of a fault, and a status that this tells is one that came
abbrev pub IsFetchedAnswer : (List ℕ → List ℕ → Bool → Type 0) → List ℕ → Answer → Type 0
IsFetchedAnswer carried request (Found value) = (length value ≤ MAX_VALUE) × ∥ IsFetched carried request value ∥₁
IsFetchedAnswer carried request (Failed text) = (f : FetchFault) × (text ≡ text_of f) × IfStatus f (λ s. ∥ IsStatusTold carried request s ∥₁)

-- what is answered for a key of a group: what a fetch by the request for the key at the group's origin may; if there is no such group,
-- that it cannot be reached
abbrev pub AnswersAt : (List ℕ → List ℕ → Bool → Type 0) → Option Origin → List ℕ → Answer → Type 0
AnswersAt carried None key a = a ≡ Failed (text_of fault.Unreached)
AnswersAt carried (Some o) key a = IsFetchedAnswer carried (request_at o.endpoint key) a

-- the same for a group's number: each group has its own origin
abbrev pub AnswersFrom : (List ℕ → List ℕ → Bool → Type 0) → List Origin → ℕ → List ℕ → Answer → Type 0
AnswersFrom carried origins group key a = AnswersAt carried (slice_get origins group) key a

module _ (carried : List ℕ → List ℕ → Bool → Type 0) where
  -- what is answered is a value within the limit or the text of a fault
  pub answer_within : (o : Option Origin) (key : List ℕ) (a : Answer) → AnswersAt carried o key a → IsOriginAnswer a
  answer_within None key a h = subst IsOriginAnswer (sym h) (fault.Unreached, refl)
  answer_within (Some o) key (Found value) h = h.0
  answer_within (Some o) key (Failed text) h = (h.0, h.1)

  -- there is an answer to everything
  pub answered_at : (o : Option Origin) (key : List ℕ) → (a : Answer) × AnswersAt carried o key a
  answered_at None key = (Failed (text_of fault.Unreached), refl)
  answered_at (Some o) key = (Failed (text_of fault.Unreached), (fault.Unreached, refl, tt))
