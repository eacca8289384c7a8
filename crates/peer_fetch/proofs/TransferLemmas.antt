-- What a connection carried is what was sent and came for its value.
use Rattle.std.proofs.Common.{◌≡◌, ◌∙◌, ℕ, ◌+◌, Bool, List, [], ◌++◌, take, drop, Option, Some, Result, Ok, Err, IfOk, IsSomeAnd, ap, sym, subst, IsTrue}
use mathlib.Core.Logic.{∥∥₁_map}
use Rattle.std.proofs.Math.Seq.{take-add}
use Rattle.std.proofs.lemmas.List.{take_all}
use Rattle.peer_http.specs.Requests.{IsOneRequest}
use Rattle.peer_runtime.specs.declared.wire.Wire.{Wire}
use Rattle.peer_origin.specs.Wires.{IsOneReply, IsOver}
use Rattle.peer_value.specs.Values.{IsAnswerOf, IsCarried}
use Rattle.peer_value.specs.declared.fetching.Answer as fetched
use Rattle.peer_value.specs.declared.fetching.Fetching.{Fetching}

-- so much more of the request was sent
pub sent_on : (line line' request request' unsent : List ℕ) (sent sent' n : ℕ) → line ≡ take sent request → unsent ≡ drop sent request → line' ≡ line ++ take n unsent
    → sent' ≡ sent + n → request' ≡ request → line' ≡ take sent' request'
sent_on line line' request request' unsent sent sent' n on left wrote counted same =
    wrote ∙ ap (λ l. l ++ take n unsent) on ∙ ap (λ d. take sent request ++ take n d) left ∙ sym (take-add sent n request)
    ∙ ap (λ k. take k request) (sym counted) ∙ ap (λ r. take sent' r) (sym same)

-- what was sent of the same try is the same
pub sent_same : (line line' request request' : List ℕ) (sent sent' : ℕ) → line ≡ take sent request → line' ≡ line → sent' ≡ sent → request' ≡ request → line' ≡ take sent' request'
sent_same line line' request request' sent sent' on wire counted same =
    wire ∙ on ∙ ap (λ k. take k request) (sym counted) ∙ ap (λ r. take sent' r) (sym same)

-- nothing was sent
pub sent_blank : (line request : List ℕ) (sent : ℕ) → line ≡ [] → sent ≡ 0 → line ≡ take sent request
sent_blank line request sent blank none = blank ∙ ap (λ k. take k request) (sym none)

-- a use is over once its value was answered by a reply that keeps the connection
pub over_by : (wire : Wire) (f : Fetching) (a : fetched.Answer) → ∥ IsOneRequest f.request.items ∥₁ → wire.sent.bytes ≡ take f.sent f.request.items
    → wire.came.bytes ≡ f.receiving.came.bytes → IsAnswerOf f a → IsTrue a.keeps → IsOver wire
over_by wire f a one sent came answer keeps =
    let whole = take_all f.sent f.request.items answer.sent in
    let free = answer.keeps keeps in (
      subst (λ t. ∥ IsOneRequest t ∥₁) (sym (sent ∙ whole)) one,
      subst (λ t. ∥ IsOneReply t ∥₁) (sym came) (∥∥₁_map free.1.1 (λ ends. (free.0.status, free.0.value.items, ends))),
    )

module _ (carried : List ℕ → List ℕ → Bool → Type 0) where
  -- the network says so of what was sent and came for the value
  pub carried_for : (f : Fetching) (sent came : List ℕ) (ended : Bool) → sent ≡ take f.sent f.request.items → came ≡ f.receiving.came.bytes → ended ≡ f.ended
      → ∥ carried sent came ended ∥₁ → IsCarried carried f
  carried_for f sent came ended s c e h =
      subst (λ x. ∥ carried (take f.sent f.request.items) f.receiving.came.bytes x ∥₁) e
      (subst (λ x. ∥ carried (take f.sent f.request.items) x ended ∥₁) c (subst (λ x. ∥ carried x came ended ∥₁) s h))

  -- whether a value was found or not
  pub done_on : {V E : Type 0} (got : Result V E) (by : Option Fetching) (f : Fetching) → by ≡ Some f → IsCarried carried f → IfOk got (λ v. IsSomeAnd by (IsCarried carried))
  done_on (Ok v) by f is h = subst (λ b. IsSomeAnd b (IsCarried carried)) (sym is) h
  done_on (Err e) by f is h = tt
