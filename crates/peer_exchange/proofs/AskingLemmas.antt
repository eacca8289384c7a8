-- Laws of what an exchange asked and answered.
use Rattle.std.proofs.Common.{Option, ◌≡◌, ◌∙◌, ℕ, ◌+◌, ◌≤◌, ◌^◌, min, Bool, true, false, List, [], ◌∷◌, ◌++◌, refl, sym, ap, arith, append_assoc, append-nil, Ok, Err, leb, ◌||◌, length, length-append}
use Rattle.std.proofs.lemmas.Bool.{le-leb, true≢false}
use Rattle.std.specs.VecDeque.{deque_len}
use Rattle.peer_fill.specs.declared.counts.AskCounts.{AskCounts}
use Rattle.peer_wish.specs.declared.ticket.Ticket.{Ticket}
use Rattle.peer_wish.specs.Tickets.{asks_in_body, asks_in, wish_by, wishes_by}
use Rattle.peer_wish.proofs.TicketLemmas.{asks_in-append, flights-append, wishes-append}
use Rattle.peer_exchange.specs.AnsweringReady.{AnswersTicket, AnswersReady}
use Rattle.peer_exchange.specs.Asking.{CountsAsks, AddsTicket, AddsTickets, IsJudgedThrough}
use Rattle.peer_reply.specs.Joins.{join}
use Rattle.peer_exchange.specs.Windows.{window_after, window_behind}
use Rattle.peer_exchange.specs.ExchangeStates.{unsent}
use Rattle.peer_exchange.specs.declared.exchange_state.ExchangeState.{ExchangeState}
use Rattle.peer_exchange.proofs.ExchangeLemmas.{went_well}
use Rattle.peer_reply.proofs.JoinLemmas.{join-append}

capped : (a c x most : ℕ) → min (min (a + c) most + x) most ≡ min (a + (c + x)) most
capped a c x most = omega arith

none_more : (a most : ℕ) → a ≤ most → a ≡ min (a + 0) most
none_more a most le = omega (arith, le)

-- one reply more behind these
one_put : (out old new reply : List ℕ) (replies : List (List ℕ)) → new ≡ old ++ reply → old ≡ out ++ join replies → new ≡ out ++ join (replies ++ reply ∷ [])
one_put out old new reply replies put h =
    put ∙ ap (λ v. v ++ reply) h ∙ append_assoc out (join replies) reply ∙ ap (λ v. out ++ (join replies ++ v)) (sym (append-nil reply)) ∙ ap (λ v. out ++ v) (join-append replies (reply ∷ []))

one_behind_window : (replies : List (List ℕ)) (reply : List ℕ) (tickets : ℕ) → window_behind (replies ++ reply ∷ []) tickets ≡ window_after (length reply) (window_behind replies tickets)
one_behind_window [] reply tickets = refl
one_behind_window (r ∷ rs) reply tickets = one_behind_window rs reply (window_after (length r) tickets)

module _ {S : Type 0} where
  one_more : (ts : List (Ticket S)) (t : Ticket S) → asks_in (wishes_by (ts ++ t ∷ [])) ≡ asks_in (wishes_by ts) + asks_in_body (wish_by t).body
  one_more ts t = ap asks_in (wishes-append ts (t ∷ [])) ∙ asks_in-append (wishes_by ts) (wish_by t ∷ []) ∙ omega arith

  pub adds_none : (a b : ExchangeState S) (n : AskCounts) → b.waiting.items ≡ a.waiting.items → AddsTickets a b n n went_well
  adds_none a b n same = record { tickets = []; put = same ∙ sym (append-nil a.waiting.items); counted = record { asked = omega arith; strangers = refl } }

  module _ {a b d : ExchangeState S} {l m n : AskCounts} where
    pub adds_one : AddsTickets a b l m went_well → AddsTicket b d m n → AddsTickets a d l n went_well
    adds_one h k = record {
      tickets = h.tickets ++ k.ticket ∷ [];
      put = k.put ∙ ap (λ ts. ts ++ k.ticket ∷ []) h.put ∙ append_assoc a.waiting.items h.tickets (k.ticket ∷ []);
      counted = record { asked = omega (arith, h.counted.asked, k.counted.asked, one_more h.tickets k.ticket); strangers = k.counted.strangers ∙ h.counted.strangers };
    }

    pub adds_same : {T E : Type 0} {x : T} → AddsTickets a b l m went_well → d.waiting.items ≡ b.waiting.items → CountsAsks 0 m n → AddsTickets {T = T} {E = E} a d l n (Ok x)
    adds_same h same k = record { tickets = h.tickets; put = same ∙ h.put; counted = record { asked = omega (arith, h.counted.asked, k.asked); strangers = k.strangers ∙ h.counted.strangers } }

    pub adds_lost : {T E : Type 0} {x : E} → AddsTickets a b l m went_well → CountsAsks 0 m n → AddsTickets {T = T} {E = E} a d l n (Err x)
    adds_lost h k = record { tickets = h.tickets; put = tt; counted = record { asked = omega (arith, h.counted.asked, k.asked); strangers = k.strangers ∙ h.counted.strangers } }

  pub adds_end : {T E : Type 0} {x : T} {a b : ExchangeState S} {l m : AskCounts} → AddsTickets a b l m went_well → AddsTickets {T = T} {E = E} a b l m (Ok x)
  adds_end h = record { tickets = h.tickets; put = h.put; counted = h.counted }

  -- where as many tickets wait as may, it is full
  pub full_through : {J : Type 0} (e : ExchangeState S) (left : Option J) → e.window.tickets ≤ deque_len e.waiting → IsJudgedThrough e left
  full_through e left many judging full = absurd (is_full_not (leb e.window.tickets (deque_len e.waiting)) _ (le-leb _ _ many) full)
    where
      is_full_not : (p q : Bool) → p ≡ true → (p || q) ≡ false → ⊥
      is_full_not true q e f = true≢false f
      is_full_not false q e f = true≢false (sym e)

  pub answers_none : (e : ExchangeState S) (n : AskCounts) → n.strangers ≤ 2 ^ 56 → AnswersReady e e n n went_well
  answers_none e n le = record {
    answered = [];
    left = e.waiting.items;
    first = refl;
    wait = refl;
    strangers = 0;
    flights = omega arith;
    counted = ap (λ s. record n { strangers = s }) (none_more n.strangers (2 ^ 56) le);
    replies = [];
    one_each = refl;
    put = sym (append-nil (unsent e));
    window = refl;
  }

  module _ {a b d : ExchangeState S} {l m n : AskCounts} where
    pub answers_one : {strangers : ℕ} → AnswersReady a b l m went_well → AnswersTicket strangers b d m n → AnswersReady a d l n went_well
    answers_one {strangers} h k =
        record {
          answered = h.answered ++ k.ticket ∷ [];
          left = d.waiting.items;
          first = h.first ∙ ap (λ ts. h.answered ++ ts) (sym h.wait ∙ k.taken) ∙ sym (append_assoc h.answered (k.ticket ∷ []) d.waiting.items);
          wait = refl;
          strangers = h.strangers + strangers;
          flights = omega (arith, h.flights, k.flight, flights-append h.answered (k.ticket ∷ []));
          counted =
              k.counted ∙ ap {A = AskCounts} (λ q. record q { strangers = min (q.strangers + strangers) (2 ^ 56) }) h.counted
              ∙ ap (λ s. record l { strangers = s }) (capped l.strangers h.strangers strangers (2 ^ 56));
          replies = h.replies ++ k.reply ∷ [];
          one_each = omega (arith, h.one_each, length-append h.replies (k.reply ∷ []), length-append h.answered (k.ticket ∷ []));
          put = one_put (unsent a) (unsent b) (unsent d) k.reply h.replies k.put h.put;
          window = k.window ∙ ap (window_after (length k.reply)) h.window ∙ sym (one_behind_window h.replies k.reply a.window.tickets);
        }

    pub answers_same : {T E : Type 0} {x : T} → AnswersReady a b l m went_well → d.waiting.items ≡ b.waiting.items → n ≡ m → unsent d ≡ unsent b → d.window.tickets ≡ b.window.tickets → AnswersReady {T = T} {E = E} a d l n (Ok x)
    answers_same h same k out window = record {
      answered = h.answered;
      left = h.left;
      first = h.first;
      wait = same ∙ h.wait;
      strangers = h.strangers;
      flights = h.flights;
      counted = k ∙ h.counted;
      replies = h.replies;
      one_each = h.one_each;
      put = out ∙ h.put;
      window = window ∙ h.window;
    }

    pub answers_lost : {T E : Type 0} {x : E} → AnswersReady a b l m went_well → n ≡ m → AnswersReady {T = T} {E = E} a d l n (Err x)
    answers_lost h k = record { answered = h.answered; left = h.left; first = h.first; wait = tt; strangers = h.strangers; flights = h.flights; counted = k ∙ h.counted; replies = h.replies; one_each = h.one_each; put = tt; window = tt }
