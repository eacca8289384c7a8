-- Laws of what holds of a connection at every moment.
use Rattle.std.proofs.Common.{◌≡◌, ◌∙◌, inl, inr, ℕ, ◌+◌, ◌<◌, ◌≤◌, true, false, Bool, List, [], ◌∷◌, ◌++◌, length, drop, get_or, refl, sym, ap, subst, arith, append_assoc, append-nil, length-append, Option, Result, Ok, ◌&&◌, not, ◌==◌, deque_len}
use borrow.Author.Tests.{eqb-true}
use Rattle.peer_source.specs.Answers.{Answer}
use Rattle.peer_reply.specs.declared.wish.Wish.{Wish}
use Rattle.peer_wish.specs.declared.ticket.Ticket.{Ticket}
use Rattle.peer_wish.specs.Replies.{IsReply, Replies}
use Rattle.peer_reply.specs.Joins.{join}
use Rattle.peer_wish.specs.Tickets.{wish_by, wishes_by}
use Rattle.peer_wish.proofs.ReplyLemmas.{IsReplyOf, replies, replies_of, Replies-append}
use Rattle.peer_wish.proofs.WishLemmas.{first_of}
use Rattle.peer_wish.proofs.WholeLemmas.{begins_with_first_law}
use Rattle.peer_wish.proofs.TextLemmas.{whole}
use Rattle.peer_wish.proofs.TicketLemmas.{wishes-append}
use Rattle.peer_exchange.specs.Answering.{IsReplyPut}
use Rattle.peer_exchange.specs.Intakes.{is_judging, Judged, JudgesOne, KeepsJudged}
use Rattle.peer_exchange.specs.ExchangeStates.{is_over, unsent, AreFew, Upholds, Keeps, AreSent, HoldsLittle}
use Rattle.peer_exchange.specs.declared.exchange_state.ExchangeState.{ExchangeState}
use Rattle.peer_exchange.proofs.IntakeLemmas.{judged_first}
use Rattle.peer_reply.proofs.JoinLemmas.{join-append}

-- one wish more behind those that wait
pub one_behind : (answered waiting : List Wish) (w : Wish) → (answered ++ (waiting ++ [])) ++ w ∷ [] ≡ answered ++ (waiting ++ w ∷ [])
one_behind answered waiting w = ap (λ v. (answered ++ v) ++ w ∷ []) (append-nil waiting) ∙ append_assoc answered waiting (w ∷ [])

-- the last wish that was judged has its ticket
pub last_waits : {S : Type 0} (answered : List Wish) (ts us : List (Ticket S)) (t : Ticket S) (w : Wish) → us ≡ ts ++ t ∷ [] → wish_by t ≡ w → answered ++ (wishes_by ts ++ w ∷ []) ≡ answered ++ (wishes_by us ++ [])
last_waits answered ts us t w put is =
    ap (λ v. answered ++ (wishes_by ts ++ v ∷ [])) (sym is) ∙ ap (λ v. answered ++ v) (sym (wishes-append ts (t ∷ [])) ∙ ap wishes_by (sym put) ∙ sym (append-nil (wishes_by us)))

-- no ticket waits
pub none_waits : {S : Type 0} (answered : List Wish) (us : List (Ticket S)) → us ≡ [] → answered ≡ answered ++ (wishes_by us ++ [])
none_waits answered us none = sym (append-nil answered) ∙ ap (λ v. answered ++ (wishes_by v ++ [])) (sym none)

-- the first ticket was answered
pub first_answered : {S : Type 0} (answered : List Wish) (ts us : List (Ticket S)) (t : Ticket S) → ts ≡ t ∷ us → answered ++ (wishes_by ts ++ []) ≡ (answered ++ wish_by t ∷ []) ++ (wishes_by us ++ [])
first_answered answered ts us t first =
    ap (λ v. answered ++ (wishes_by v ++ [])) first ∙ sym (append_assoc answered (wish_by t ∷ []) (wishes_by us ++ []))

-- one reply more behind those that wait to be sent
pub one_put : (sent out new reply : List ℕ) (replies : List (List ℕ)) → new ≡ out ++ reply → sent ++ out ≡ join replies → sent ++ new ≡ join (replies ++ reply ∷ [])
one_put sent out new reply replies put h =
    ap (λ v. sent ++ v) put ∙ sym (append_assoc sent out reply) ∙ ap (λ v. v ++ reply) h ∙ ap (λ v. join replies ++ v) (sym (append-nil reply)) ∙ join-append replies (reply ∷ [])

pub one_reply : (answers : ℕ → List ℕ → Answer → Type 0) (answered : List Wish) (replies : List (List ℕ)) (w : Wish) (reply : List ℕ) → IsReply answers w reply → Replies answers answered replies → Replies answers (answered ++ w ∷ []) (replies ++ reply ∷ [])
one_reply answers answered replies w reply is h = Replies-append answers answered (w ∷ []) replies (reply ∷ []) h (reply, [], refl, is, refl)

and_both : (a b : Bool) → (a && b) ≡ true → (a ≡ true) × (b ≡ true)
and_both true b e = (refl, e)
and_both false b e = cc

no_items : {A : Type 0} (xs : List A) → length xs ≡ 0 → xs ≡ []
no_items [] e = refl
no_items (x ∷ xs) e = absurd (omega (arith, e))

no_more : (ws vs : List Wish) → ws ++ vs ≡ ws → vs ≡ []
no_more ws [] e = refl
no_more ws (v ∷ vs) e = absurd (omega (arith, ap length e, length-append ws (v ∷ vs)))

-- where it is over, no ticket waits and nothing is to be sent
pub when_over : {S : Type 0} (e : ExchangeState S) → is_over e ≡ true → (e.waiting.items ≡ []) × (unsent e ≡ [])
when_over e h =
    let outer = and_both (not (is_judging e.intake.stage) && (deque_len e.waiting == 0)) (length (unsent e) == 0) h in
    let inner = and_both (not (is_judging e.intake.stage)) (deque_len e.waiting == 0) outer.0 in
    (no_items e.waiting.items (sym e.waiting.ok.0 ∙ eqb-true (deque_len e.waiting) 0 inner.1), no_items (unsent e) (eqb-true (length (unsent e)) 0 outer.1))

module _ {S : Type 0} (numbers : List ℕ → Option ℕ) (answers : ℕ → List ℕ → Answer → Type 0) (some : (g : ℕ) (k : List ℕ) → (a : Answer) × answers g k a) (e : ExchangeState S) (came sent : List ℕ) where
  -- what holds at every moment says what was sent
  pub are_sent : Upholds numbers answers came sent [] e → AreSent numbers answers came sent
  are_sent h =
      let waits = wishes_by e.waiting.items ++ [] in
      let judged = h.judged.judged in
      let firsts = judged_first numbers e.intake.stage came (h.answered ++ waits) e.intake.count e.intake.held judged in
      let first = first_of numbers h.answered waits 0 came firsts in
      let all = whole numbers 0 came (omega arith) in
      let more = begins_with_first_law numbers 0 came h.answered all.0 first all.1 in
      let behind = replies_of answers some more.0 in
      let P : List Wish → Type 0 = λ v. Replies answers v (h.replies ++ behind.0) in
      record {
        replies = h.replies ++ behind.0;
        all = record { wishes = all.0; whole = all.1; each = subst P (sym more.1) (Replies-append answers h.answered more.0 h.replies behind.0 h.each behind.1) };
        rest = unsent e ++ join behind.0;
        front = sym (append_assoc sent (unsent e) (join behind.0)) ∙ ap (λ v. v ++ join behind.0) h.put ∙ join-append h.replies behind.0;
      }

module _ {S : Type 0} (numbers : List ℕ → Option ℕ) (answers : ℕ → List ℕ → Answer → Type 0) (e : ExchangeState S) (came sent : List ℕ) where
  -- what holds at every moment says that it holds little
  pub holds_little : length e.intake.held ≤ 16384 → Upholds numbers answers came sent [] e → HoldsLittle numbers answers came sent e
  holds_little held h = record {
    held = held;
    waiting = h.waiting;
    wishes = h.answered;
    are =
        let waits = wishes_by e.waiting.items ++ [] in
        first_of numbers h.answered waits 0 came (judged_first numbers e.intake.stage came (h.answered ++ waits) e.intake.count e.intake.held h.judged.judged);
    replies = h.replies;
    each = h.each;
    put = h.put;
    unsent = h.unsent;
  }

-- fewer bytes of the same replies
pub still_few : (replies : List (List ℕ)) (bytes less : List ℕ) → length less ≤ length bytes → AreFew replies bytes → AreFew replies less
still_few replies bytes less le (inl few) = inl (omega (arith, le, few))
still_few replies bytes less le (inr (first, last, is, few)) = inr (first, last, is, omega (arith, le, few))

module _ {S : Type 0} {numbers : List ℕ → Option ℕ} {answers : ℕ → List ℕ → Answer → Type 0} where
  pub keeps_none : (e : ExchangeState S) → Keeps numbers answers e e
  keeps_none e = record { keeps = λ came sent h. h }

  pub keeps_then : {a b c : ExchangeState S} → Keeps numbers answers a b → Keeps numbers answers b c → Keeps numbers answers a c
  keeps_then {a} {b} {c} h k = record { keeps = λ came sent is. k.keeps came sent (h.keeps came sent is) }

-- a call that went well
abbrev pub went_well : Result Unit Unit
went_well = Ok tt

-- a list that is not empty is its first item and the others
pub first_item : {A : Type 0} (xs : List A) (x : A) → 0 < length xs → x ≡ get_or xs 0 x → xs ≡ x ∷ drop 1 xs
first_item [] x lt e = absurd (omega (arith, lt))
first_item (y ∷ ys) x lt e = ap (λ v. v ∷ ys) (sym e)

-- as many tickets wait
same_few : {S : Type 0} (a b : ExchangeState S) → b.waiting.items ≡ a.waiting.items → deque_len a.waiting ≤ 64 → deque_len b.waiting ≤ 64
same_few a b same few = omega (arith, a.waiting.ok.0, b.waiting.ok.0, ap length same, few)

module _ {S : Type 0} {numbers : List ℕ → Option ℕ} {answers : ℕ → List ℕ → Answer → Type 0} {a b : ExchangeState S} {came sent : List ℕ} where
  -- nothing that matters changed
  pub upholds_like : {more : List Wish} → b.intake ≡ a.intake → b.waiting.items ≡ a.waiting.items → unsent b ≡ unsent a → Upholds numbers answers came sent more a → Upholds numbers answers came sent more b
  upholds_like {more} intake waiting out h = record {
    answered = h.answered;
    judged =
        subst (Judged numbers came (h.answered ++ (wishes_by b.waiting.items ++ more))) (sym intake)
        (subst (λ ts. Judged numbers came (h.answered ++ (wishes_by ts ++ more)) a.intake) (sym waiting) h.judged);
    replies = h.replies;
    each = h.each;
    put = ap (λ v. sent ++ v) out ∙ h.put;
    waiting = same_few a b waiting h.waiting;
    unsent = subst (AreFew h.replies) (sym out) h.unsent;
  }

  -- one wish more was judged ..
  pub judge_one : (w : Wish) → JudgesOne numbers a.intake b.intake w → b.waiting.items ≡ a.waiting.items → unsent b ≡ unsent a → Upholds numbers answers came sent [] a → Upholds numbers answers came sent (w ∷ []) b
  judge_one w judges waiting out h =
      let P : List Wish → Type 0 = λ ws. Judged numbers came ws b.intake in
      let Q : List (Ticket S) → Type 0 = λ ts. Judged numbers came (h.answered ++ (wishes_by ts ++ w ∷ [])) b.intake in
      record {
        answered = h.answered;
        judged = subst Q (sym waiting) (subst P (one_behind h.answered (wishes_by a.waiting.items) w) (judges came (h.answered ++ (wishes_by a.waiting.items ++ [])) h.judged));
        replies = h.replies;
        each = h.each;
        put = ap (λ v. sent ++ v) out ∙ h.put;
        waiting = same_few a b waiting h.waiting;
        unsent = subst (AreFew h.replies) (sym out) h.unsent;
      }

  -- .. or none
  pub judge_none : KeepsJudged numbers a.intake b.intake → b.waiting.items ≡ a.waiting.items → unsent b ≡ unsent a → Upholds numbers answers came sent [] a → Upholds numbers answers came sent [] b
  judge_none judges waiting out h =
      let Q : List (Ticket S) → Type 0 = λ ts. Judged numbers came (h.answered ++ (wishes_by ts ++ [])) b.intake in
      record {
        answered = h.answered;
        judged = subst Q (sym waiting) (judges came (h.answered ++ (wishes_by a.waiting.items ++ [])) h.judged);
        replies = h.replies;
        each = h.each;
        put = ap (λ v. sent ++ v) out ∙ h.put;
        waiting = same_few a b waiting h.waiting;
        unsent = subst (AreFew h.replies) (sym out) h.unsent;
      }

  -- the ticket of the last wish waits
  pub wait_one : (t : Ticket S) (w : Wish) → b.intake ≡ a.intake → b.waiting.items ≡ a.waiting.items ++ t ∷ [] → deque_len b.waiting ≡ deque_len a.waiting + 1 → deque_len a.waiting < 64 → wish_by t ≡ w → unsent b ≡ unsent a → Upholds numbers answers came sent (w ∷ []) a → Upholds numbers answers came sent [] b
  wait_one t w intake put len few is out h =
      let P : List Wish → Type 0 = λ ws. Judged numbers came ws b.intake in
      record {
        answered = h.answered;
        judged = subst P (last_waits h.answered a.waiting.items b.waiting.items t w put is) (subst (Judged numbers came (h.answered ++ (wishes_by a.waiting.items ++ w ∷ []))) (sym intake) h.judged);
        replies = h.replies;
        each = h.each;
        put = ap (λ v. sent ++ v) out ∙ h.put;
        waiting = omega (arith, len, few);
        unsent = subst (AreFew h.replies) (sym out) h.unsent;
      }

  -- the first ticket was answered
  pub answer_one : (t : Ticket S) → b.intake ≡ a.intake → a.waiting.items ≡ t ∷ b.waiting.items → deque_len a.waiting ≡ deque_len b.waiting + 1 → length (unsent a) < 65536 → IsReplyPut answers (wish_by t) (unsent a) (unsent b) → Upholds numbers answers came sent [] a → Upholds numbers answers came sent [] b
  answer_one t intake first len small put h =
      let P : List Wish → Type 0 = λ ws. Judged numbers came ws b.intake in
      record {
        answered = h.answered ++ wish_by t ∷ [];
        judged = subst P (first_answered h.answered a.waiting.items b.waiting.items t first) (subst (Judged numbers came (h.answered ++ (wishes_by a.waiting.items ++ []))) (sym intake) h.judged);
        replies = h.replies ++ put.reply ∷ [];
        each = one_reply answers h.answered h.replies (wish_by t) put.reply put.replies h.each;
        put = one_put sent (unsent a) (unsent b) put.reply h.replies put.put h.put;
        waiting = omega (arith, len, h.waiting);
        unsent = inr (h.replies, put.reply, refl, omega (arith, ap length put.put, length-append (unsent a) put.reply, small));
      }

-- it holds under each relation of answers that has the same replies
pub upholds_under : {S : Type 0} {e : ExchangeState S} {numbers : List ℕ → Option ℕ} {came sent : List ℕ} {more : List Wish} (A B : ℕ → List ℕ → Answer → Type 0)
    → ((closing bare : Bool) (g : ℕ) (k r : List ℕ) → IsReplyOf A closing bare g k r → IsReplyOf B closing bare g k r) → Upholds numbers A came sent more e → Upholds numbers B came sent more e
upholds_under A B carries h =
    record {
      answered = h.answered;
      judged = h.judged;
      replies = h.replies;
      each = replies A B carries h.answered h.replies h.each;
      put = h.put;
      waiting = h.waiting;
      unsent = h.unsent;
    }
