-- What a value is that was found.
use Rattle.std.proofs.Common.{◌≡◌, ◌≢◌, ℕ, ◌≤◌, Bool, true, false, List, [], length, take, drop, Option, Some, None, Result, Ok, Err, IfErr, IfOk, refl, sym, subst, subst₂, arith, append-nil, Vec}
use mathlib.Core.Logic.{∥∥₁_map}
use Rattle.std.proofs.lemmas.List.{take-append-drop, take_all}
use Rattle.std.specs.declared.alloc.Global.{Global}
use Rattle.peer_view.specs.Sinks.{MAX_VALUE}
use Rattle.peer_http.specs.Replies.{HasHead, IsReply}
use Rattle.peer_http.specs.Receivings.{IsStanding}
use Rattle.peer_origin.specs.declared.fault.FetchFault.{FetchFault}
use Rattle.peer_origin.specs.declared.fault.FetchFault.TheVariants as fault
use Rattle.peer_origin.specs.Fetches.{IsTry, Tries, once, twice}
use Rattle.peer_value.specs.Fetchings.{GoesOnAnew, IsFoundIn, use_by, uses_by}
use Rattle.peer_value.specs.Values.{IsSent, IsStatusOf, IsToldBy}
use Rattle.peer_value.specs.declared.fetching.Fetching.{Fetching}
use Rattle.peer_value.specs.declared.fetching.Silence.{Silence}

tries_by : (request : List ℕ) (sent : ℕ) (came : List ℕ) (ended : Bool) → IsTry (Some []) request (use_by request sent came ended)
tries_by request sent came ended = (drop sent request, (take sent request, refl, take-append-drop sent request))

tries : (request : List ℕ) (sent : ℕ) (came : List ℕ) (ended : Bool) (first : Option Silence) → Tries (Some []) request [] (uses_by request sent came ended first)
tries request sent came ended None = once (use_by request sent came ended) (tries_by request sent came ended)
tries request sent came ended (Some s) =
    twice (use_by request s.sent [] s.ended) (use_by request sent came ended) (tries_by request s.sent [] s.ended) refl (tries_by request sent came ended)

never : ◌≡◌ {A = Option ℕ} (Some 1) (Some 0) → ⊥
never e = grind (arith, e)

module _ (request : List ℕ) (sent : ℕ) (came : List ℕ) (first : Option Silence) (value : Vec ℕ Global) (whole : length request ≤ sent) (within : length value.items ≤ MAX_VALUE) where
  -- a reply that stands
  found_standing : (ended : Bool) → IsStanding came 200 value.items → IsFoundIn request sent came ended first value
  found_standing ended s = (
    tries request sent came ended first,
    record {
      sent = take_all sent request whole;
      text = came;
      came = refl;
      reply = ∣ subst (λ t. IsReply t 200 value.items) (append-nil came) (s []) ∣₁;
      stands = λ untold later. ∣ s later ∣₁;
      within = within;
    },
  )

  -- one that ended with its connection
  found_at_end : IsReply came 200 value.items → IsFoundIn request sent came true first value
  found_at_end r = (
    tries request sent came true first,
    record {
      sent = take_all sent request whole;
      text = came;
      came = refl;
      reply = ∣ r ∣₁;
      stands = λ untold later. absurd (never untold);
      within = within;
    },
  )

module _ (request : List ℕ) (sent : ℕ) (came : List ℕ) (first : Option Silence) (status : ℕ) (content : List ℕ) (whole : length request ≤ sent) (within : length content ≤ MAX_VALUE) where
  pub answers_standing : (ended : Bool) (got : Result (Vec ℕ Global) FetchFault) → IfOk got (λ v. (v.items ≡ content) × (status ≡ 200)) → ∥ IsStanding came status content ∥₁ → IfOk got (λ v. (length v.items ≤ MAX_VALUE) × ∥ IsFoundIn request sent came ended first v ∥₁)
  answers_standing ended (Ok v) (same, ok) s =
      let within' : length v.items ≤ MAX_VALUE = subst (λ x. length x ≤ MAX_VALUE) (sym same) within in
      (within', ∥∥₁_map s (λ h. found_standing request sent came first v whole within' ended (subst₂ (IsStanding came) ok (sym same) h)))
  answers_standing ended (Err f) h s = tt

  pub answers_at_end : (got : Result (Vec ℕ Global) FetchFault) → IfOk got (λ v. (v.items ≡ content) × (status ≡ 200)) → ∥ IsReply came status content ∥₁ → IfOk got (λ v. (length v.items ≤ MAX_VALUE) × ∥ IsFoundIn request sent came true first v ∥₁)
  answers_at_end (Ok v) (same, ok) s =
      let within' : length v.items ≤ MAX_VALUE = subst (λ x. length x ≤ MAX_VALUE) (sym same) within in
      (within', ∥∥₁_map s (λ h. found_at_end request sent came first v whole within' (subst₂ (IsReply came) ok (sym same) h)))
  answers_at_end (Err f) h s = tt

-- a reply that stands is one
pub reply_of : (came : List ℕ) (status : ℕ) (content : List ℕ) → ∥ IsStanding came status content ∥₁ → ∥ IsReply came status content ∥₁
reply_of came status content s = ∥∥₁_map s (λ h. subst (λ t. IsReply t status content) (append-nil came) (h []))

-- there is no value for the status of the reply
pub status_of : (came : List ℕ) (status : ℕ) (content : List ℕ) (got : Result (Vec ℕ Global) FetchFault) → IfErr got (λ why. (why ≡ fault.Status status) × (status ≢ 200)) → ∥ IsReply came status content ∥₁ → IfErr got (IsStatusOf came)
status_of came status content (Ok v) h r = tt
status_of came status content (Err why) (is, other) r = (status, content, is, other, r)

-- a reply has its head
has_head : (came : List ℕ) (status : ℕ) (content : List ℕ) → IsReply came status content → HasHead came status
has_head came status content r = record {
  start = r.start;
  interims = r.interims;
  head = r.response.head;
  framing = r.reads.framing;
  rest = r.reads.after_head;
  accepts = r.reads.head;
  final = r.final;
  code = r.code;
}

-- the status of the reply is told
pub told_of : (f : Fetching) (status : ℕ) (content : List ℕ) (got : Result (Vec ℕ Global) FetchFault) → IsSent f
    → IfErr got (λ why. (why ≡ fault.Status status) × (status ≢ 200)) → ∥ IsReply f.receiving.came.bytes status content ∥₁ → IfErr got (IsToldBy (Some f))
told_of f status content (Ok v) whole h r = tt
told_of f status content (Err why) whole (is, other) r = subst (IsToldBy (Some f)) (sym is) (record {
  sent = whole;
  head = ∥∥₁_map r (has_head f.receiving.came.bytes status content);
  other = other;
})

-- a fetch that begins anew
pub anew : (request : List ℕ) (sent : ℕ) (came : List ℕ) (ended : Bool) (first : Option Silence) (came' : List ℕ) → came ≡ [] → first ≡ None → came' ≡ []
    → GoesOnAnew request (uses_by request sent came ended first) (uses_by request 0 came' false (Some (record { sent = sent; ended = ended })))
anew request sent came ended first came' silent none blank =
    let s : Silence = record { sent = sent; ended = ended } in
    subst (λ x. GoesOnAnew request (uses_by request sent x ended first) (uses_by request 0 came' false (Some s))) (sym silent)
    (subst (λ x. GoesOnAnew request (uses_by request sent [] ended x) (uses_by request 0 came' false (Some s))) (sym none)
    (subst (λ x. GoesOnAnew request (uses_by request sent [] ended None) (uses_by request 0 x false (Some s))) (sym blank)
    (use_by request sent [] ended, refl, refl, refl)))
