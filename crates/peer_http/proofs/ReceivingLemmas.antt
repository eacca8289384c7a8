-- A reply, read as its bytes come.
use mathlib.Core.Logic.{∥∥₁_map}
use Rattle.std.proofs.Common.{Bool, true, false, true≢false, ◌≡◌, ◌≢◌, ℕ, ◌==◌, ◌&&◌, ◌↔◌, ◌∷◌, length, IsTrue, List, [], ◌++◌, drop, Some, None, Ok, sym, refl, ap, ◌∙◌, subst, subst₂, append_assoc, append-nil, arith}
use Rattle.http1.specs.declared.client.Client.{Client}
use Rattle.http1.specs.declared.conn.Reading.TheVariants as Reads
use Rattle.http1.specs.declared.decode.Decoder.{Decoder}
use Rattle.http1.specs.declared.decode.Decoder.TheVariants.{UntilClose}
use Rattle.http1.specs.Body.{body_of}
use Rattle.http1.specs.Client.{IsIdle}
use Rattle.http1.specs.Decoder.{Completes, decoder_for, with_front}
use Rattle.http1.proofs.OneParse.{body_from_completes}
use Rattle.peer_http.specs.Requests.{LIMITS}
use Rattle.peer_http.specs.Replies.{HasHead, Interims, IsToldOf, IsReply, IsReplyBefore, IsReplyKept, TakesEnd, TakesFinal, TakesNothing, TakesPiece}
use Rattle.peer_http.specs.Receivings.{EndsOpen, FindsHead, IsInContent, IsReadTo, IsStanding, IsStandingBefore, MayAskAgain, Proceeds, TakesContent}
use Rattle.peer_http.specs.declared.stage.Stage.{Stage}
use Rattle.peer_http.specs.declared.stage.Stage.TheVariants as stage
use Rattle.peer_http.specs.declared.reply.Reply.{Reply}
use Rattle.peer_http.specs.declared.fault.ReplyFault.{ReplyFault}
use Rattle.peer_http.specs.declared.fault.ReplyFault.TheVariants as told
use Rattle.peer_http.proofs.ReadLemmas.{accepts_append, interims_append, same_body}

no_front : (front back : List ℕ) → front ++ back ≡ [] → front ≡ []
no_front [] back h = refl
no_front (x ∷ front) back h = absurd (omega (arith, ap length h))

-- no byte came, where none came before and none comes now
pub silence_kept : (silent empty : Bool) (came bytes came' : List ℕ) → (IsTrue silent ↔ (came ≡ [])) → came' ≡ came ++ bytes
    → empty ≡ (length bytes == 0) → IsTrue (silent && empty) ↔ (came' ≡ [])
silence_kept true empty came [] came' none grown is = ((λ t. grown ∙ append-nil came ∙ none.0 refl), (λ z. is))
silence_kept true empty came (x ∷ bytes) came' none grown is =
    ((λ t. absurd (grind (arith, is, t))), (λ z. absurd (omega (arith, ap length (ap (λ cs. cs ++ (x ∷ bytes)) (sym (none.0 refl)) ∙ sym grown ∙ z)))))
silence_kept false empty came bytes came' none grown is =
    ((λ t. absurd (true≢false (sym t))), (λ z. absurd (true≢false (sym (none.1 (no_front came bytes (sym grown ∙ z)))))))

-- the head of the final reply
pub begins : (came : List ℕ) (c : Client) (unread unread' : List ℕ) (status : ℕ) → Interims came unread → TakesFinal c unread unread' status → IsInContent came status c unread' []
begins came c unread unread' status is t = (
  decoder_for LIMITS t.framing,
  t.body,
  λ later body rest done. (
    (
      record {
        start = unread ++ later;
        interims = interims_append came unread later is;
        response = record { head = t.head; body = body };
        rest = rest;
        reads = record {
          framing = t.framing;
          after_head = unread' ++ later;
          head = accepts_append unread t.head t.framing unread' later t.accepts;
          body = body_from_completes LIMITS t.framing (unread' ++ later) body rest done;
        };
        final = t.final;
        code = t.code;
        uncoded = t.uncoded;
        body = refl;
      },
      refl,
    ),
    t.alive,
  ),
)

-- it came
pub has_head : (came : List ℕ) (c : Client) (unread unread' : List ℕ) (status : ℕ) → Interims came unread → TakesFinal c unread unread' status → HasHead came status
has_head came c unread unread' status is t = record {
  start = unread;
  interims = is;
  head = t.head;
  framing = t.framing;
  rest = unread';
  accepts = t.accepts;
  final = t.final;
  code = t.code;
}

-- and stays, whatever comes behind it
pub head_append : (came later : List ℕ) (status : ℕ) → HasHead came status → HasHead (came ++ later) status
head_append came later status h = record {
  start = h.start ++ later;
  interims = interims_append came h.start later h.interims;
  head = h.head;
  framing = h.framing;
  rest = h.rest ++ later;
  accepts = accepts_append h.start h.head h.framing h.rest later h.accepts;
  final = h.final;
  code = h.code;
}

-- what holds for one reason holds for what gives that
weaken : {K K' : Type 0} {text : List ℕ} {status : ℕ} {value rest : List ℕ} → IsReplyKept K text status value rest → (K' → K) → IsReplyKept K' text status value rest
weaken k f = (k.0, λ h. k.1 (f h))

-- a piece
pub goes : (came : List ℕ) (status : ℕ) (alive : Bool) (d : Decoder) (c : Client) (unread unread' value value' : List ℕ) → Proceeds (alive ≡ true) came status value d unread → TakesPiece alive d c unread unread' value value' → IsInContent came status c unread' value'
goes came status alive d c unread unread' value value' p t = (
  t.new,
  t.reading,
  λ later body rest done.
      let back = t.continues.back later body rest (subst (λ u. Completes t.new (u ++ later) body rest) t.rest done) in
      subst (λ v. IsReplyKept (c.keep_alive ≡ true) (came ++ later) status v rest) (sym (append_assoc value t.piece body.bytes) ∙ ap (λ v. v ++ body.bytes) (sym t.grown))
      (weaken (p later (with_front t.piece body) rest back) (λ h. sym t.still ∙ h)),
)

-- the end
pub ends : (came : List ℕ) (status : ℕ) (alive : Bool) (d : Decoder) (c : Client) (unread unread' value value' : List ℕ) → Proceeds (alive ≡ true) came status value d unread → TakesEnd alive d c unread unread' value value' → IsStandingBefore (IsIdle c) came status value' unread'
ends came status alive d c unread unread' value value' p t later =
    subst₂ (λ v u. IsReplyKept (IsIdle c) (came ++ later) status v (u ++ later)) (append-nil value ∙ sym t.same) (sym t.rest)
    (weaken (p later (body_of [] t.trailers) (drop t.len unread ++ later) (t.completes later)) t.idle)

-- nothing is left of a body that runs until the end of the connection
pub drains : (alive : Bool) (d : Decoder) (c : Client) (unread unread' value value' : List ℕ) → TakesNothing alive d c unread unread' value value' → c.reading ≡ Reads.Body UntilClose → unread' ≡ []
drains alive d c unread unread' value value' t closes = t.drained (same_body (sym t.taken.reading ∙ closes))

-- bytes came
pub comes : (came bytes : List ℕ) (s : Stage) (c : Client) (unread value : List ℕ) → IsReadTo came s c unread value → IsReadTo (came ++ bytes) s c (unread ++ bytes) value
comes came bytes stage.Head c unread value (is, empty) = (interims_append came unread bytes is, empty)
comes came bytes (stage.Content status) c unread value (d, is, p) = (
  d,
  is,
  λ later body rest done.
      subst (λ t. IsReplyKept (c.keep_alive ≡ true) t status (value ++ body.bytes) rest) (sym (append_assoc came bytes later))
      (p (bytes ++ later) body rest (subst (λ t. Completes d t body rest) (append_assoc unread bytes later) done)),
)
comes came bytes stage.Over c unread value h = tt

-- the end of the connection
pub closes : (came : List ℕ) (status : ℕ) (c : Client) (unread value : List ℕ) → IsInContent came status c unread value → c.reading ≡ Reads.Body UntilClose → unread ≡ [] → IsReplyBefore came status value []
closes came status c unread value (d, is, p) until none =
    let at : d ≡ UntilClose = same_body (sym is ∙ until) in
    let last : Completes d (unread ++ []) (body_of [] []) [] =
    subst₂ (λ x u. Completes x (u ++ []) (body_of [] []) []) (sym at) (sym none) (refl, refl, refl) in
    subst₂ (λ t v. IsReplyBefore t status v []) (append-nil came) (append-nil value) (p [] (body_of [] []) [] last).0

-- a reply that stands, with nothing unread behind it, is all that came
pub alone_now : (K : Type 0) (came : List ℕ) (status : ℕ) (value unread : List ℕ) → IsStandingBefore K came status value unread → unread ≡ [] → IsReplyKept K came status value []
alone_now K came status value unread s none = subst₂ (λ t u. IsReplyKept K t status value (u ++ [])) (append-nil came) none (s [])

-- a reply that is given, behind which nothing is unread, and whose client takes another request
pub asks_again : (came came' : List ℕ) (c c' : Client) (unread : List ℕ) (status : ℕ) (value : List ℕ) (r : Reply) → came ≡ came' → c' ≡ c
    → r.status ≡ status → r.value.items ≡ value → IsTrue r.keeps ↔ (IsIdle c × (unread ≡ [])) → ∥ (unread ≡ [] → IsReplyKept (IsIdle c) came status value []) ∥₁
    → IsTrue r.keeps → MayAskAgain came' c' r
asks_again came came' c c' unread status value r grown same code body keeps alone kept = (
  subst IsIdle (sym same) (keeps.0 kept).0,
  ∥∥₁_map alone (λ h. subst (λ t. EndsOpen t r.status r.value.items) grown
      (subst₂ (EndsOpen came) (sym code) (sym body) (let k = h (keeps.0 kept).1 in (k.0, k.1 (keeps.0 kept).0)))),
)

-- a reply that stands is there
pub stands_now : (came : List ℕ) (status : ℕ) (value : List ℕ) → IsStanding came status value → IsReply came status value
stands_now came status value s = subst (λ t. IsReply t status value) (append-nil came) (s [])

same_status : (s t : ℕ) → stage.Content s ≡ stage.Content t → s ≡ t
same_status s t h = ap status_or h
  where
    status_or : Stage → ℕ
    status_or (stage.Content x) = x
    status_or stage.Head = s
    status_or stage.Over = s

-- what is known of the status of a stage is known of the stage's own
pub head_in : (came : List ℕ) (status s : ℕ) → ∥ HasHead came status ∥₁ → stage.Content status ≡ stage.Content s → ∥ HasHead came s ∥₁
head_in came status s h is = subst (λ x. ∥ HasHead came x ∥₁) (same_status status s is) h

-- a fault within the body of a reply whose head came
pub told_of : (came : List ℕ) (status : ℕ) (f : ReplyFault) → ∥ HasHead came status ∥₁ → ((s : ℕ) → f ≡ told.Status s → (s ≡ status) × (s ≢ 200)) → IsToldOf came f
told_of came status told.Silent h only = tt
told_of came status told.Lost h only = tt
told_of came status told.Malformed h only = tt
told_of came status told.TooLong h only = tt
told_of came status (told.Status s) h only = let own = only s refl in (subst (λ x. ∥ HasHead came x ∥₁) (sym own.0) h, own.1)
told_of came status told.Memory h only = tt

-- no head was found
pub waits_on : (came : List ℕ) (s : Stage) (c c' : Client) (unread unread' value : List ℕ) → s ≡ stage.Head → FindsHead c' unread unread' (Ok None) → IsReadTo came s c unread value → IsReadTo came s c' unread' value
waits_on came s c c' unread unread' value is found h =
    let r = subst (λ x. IsReadTo came x c unread value) is h in
    subst (λ x. IsReadTo came x c' unread' value) (sym is) (found.1 came r.0, r.1)

-- a head was found
pub begins_at : (came : List ℕ) (s : Stage) (c c' : Client) (status : ℕ) (unread unread' value value' : List ℕ) → s ≡ stage.Head → FindsHead c' unread unread' (Ok (Some status)) → value' ≡ [] → IsReadTo came s c unread value → IsReadTo came (stage.Content status) c' unread' value'
begins_at came s c c' status unread unread' value value' is found empty h =
    let r = subst (λ x. IsReadTo came x c unread value) is h in
    subst (IsInContent came status c' unread') (sym empty) (found came r.0).0

-- its head came
pub head_at : (came : List ℕ) (s : Stage) (c c' : Client) (status : ℕ) (unread unread' value : List ℕ) → s ≡ stage.Head → FindsHead c' unread unread' (Ok (Some status)) → IsReadTo came s c unread value → HasHead came status
head_at came s c c' status unread unread' value is found h =
    let r = subst (λ x. IsReadTo came x c unread value) is h in
    (found came r.0).1

module _ (came : List ℕ) (s : Stage) (status : ℕ) (c c' : Client) (unread unread' value value' : List ℕ) (is : s ≡ stage.Content status) (h : IsReadTo came s c unread value) where
  in_content : IsInContent came status c unread value
  in_content = subst (λ x. IsReadTo came x c unread value) is h

  -- more of the content has to come
  pub waits_in : TakesContent c c' unread unread' value value' (Ok false) → IsReadTo came s c' unread' value'
  waits_in t = subst (λ x. IsReadTo came x c' unread' value') (sym is) (t.0 came status in_content)

  -- all of it came
  pub whole : TakesContent c c' unread unread' value value' (Ok true) → IsStandingBefore (IsIdle c') came status value' unread'
  whole t = t came status in_content

  -- all of it came with the end of the connection
  pub whole_at_end : TakesContent c c' unread unread' value value' (Ok false) → c'.reading ≡ Reads.Body UntilClose → IsReplyBefore came status value' []
  whole_at_end t until = closes came status c' unread' value' (t.0 came status in_content) until (t.1 in_content.0 in_content.1 until)
