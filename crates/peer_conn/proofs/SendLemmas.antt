-- Laws of what went behind buffered replies.
use Rattle.std.proofs.Common.{◌≡◌, ℕ, ◌+◌, List, [], ◌∷◌, ◌++◌, refl, sym, ◌∙◌, ap, subst, append_assoc, append-nil, Option}
use Rattle.peer_source.specs.Answers.{Answer}
use Rattle.peer_view.specs.Moves.{Moves}
use Rattle.peer_view.proofs.MovingLemmas.{Moves-along, Moves-more, Moves-none, Moves-trans}
use Rattle.peer_reply.specs.declared.wish.Wish.{Wish}
use Rattle.peer_wish.specs.Replies.{IsReply}
use Rattle.peer_wish.proofs.ReplyLemmas.{Replies-append}
use Rattle.peer_reply.specs.Joins.{join}
use Rattle.peer_reply.proofs.JoinLemmas.{join-append}
use Rattle.peer_conn.specs.Sending.{Sending, Sent, Broke, Answered}
use Rattle.peer_conn.specs.WriterStates.{Still, IsOfFirst, RepliesFrom, FlushesFrom}
use Rattle.peer_conn.specs.declared.end.WriterState.{WriterState}
use Rattle.peer_conn.specs.declared.end.WriterState.TheVariants.{Active, Memory, WriteFault}

-- a writer and what is buffered for it, before and after
abbrev pub sending_by : ℕ → ℕ → Option (List ℕ) → Option (List ℕ) → List ℕ → List ℕ → Sending
sending_by f f' a a' x x' = record { failures = f; failures' = f'; taken = a; taken' = a'; buffered = x; buffered' = x' }

-- bytes behind buffered ones, and then more
pub Moves-then : (a b c : Option (List ℕ)) {w : List ℕ} (x p q y z : List ℕ) → p ++ q ≡ w → Moves a b (x ++ p) y → Moves b c (y ++ q) z → Moves a c (x ++ w) z
Moves-then a b c {w} x p q y z e h k =
    Moves-trans a b c (x ++ w) (y ++ q) z (Moves-along a b _ _ _ _ (append_assoc x p q ∙ ap (λ v. x ++ v) e) refl (Moves-more a b (x ++ p) y q h)) k

-- bytes behind buffered ones, and then no more of those that follow
pub Moves-cut : (a b : Option (List ℕ)) (x p q w y : List ℕ) → p ++ q ≡ w → Moves a b (x ++ p) y → Moves a b (x ++ w) (y ++ q)
Moves-cut a b x p q w y e h = Moves-along a b _ _ _ _ (append_assoc x p q ∙ ap (λ v. x ++ v) e) refl (Moves-more a b (x ++ p) y q h)

-- nothing more was sent
pub sent_none : (f : ℕ) (a : Option (List ℕ)) (x : List ℕ) → Sent (sending_by f f a a x x) []
sent_none f a x = (Moves-along a a x (x ++ []) x x (sym (append-nil x)) refl (Moves-none a x), refl)

-- what is true of the first of some wishes, with others before them or behind them
first_behind : {P Q : List Wish → Type 0} (ws vs : List Wish) → ((front : List Wish) → P front → Q (ws ++ front)) → IsOfFirst P vs → IsOfFirst Q (ws ++ vs)
first_behind ws vs leads h = record { front = ws ++ h.front; left = h.left; cut = append_assoc ws h.front h.left ∙ ap (λ v. ws ++ v) h.cut; fact = leads h.front h.fact }

first_before : {P Q : List Wish → Type 0} (ws vs : List Wish) → ((front : List Wish) → P front → Q front) → IsOfFirst P ws → IsOfFirst Q (ws ++ vs)
first_before ws vs leads h = record { front = h.front; left = h.left ++ vs; cut = sym (append_assoc h.front h.left vs) ∙ ap (λ v. v ++ vs) h.cut; fact = leads h.front h.fact }

module _ (answers : ℕ → List ℕ → Answer → Type 0) where
  -- no reply
  pub answered_none : (P : List ℕ → Type 0) → P [] → Answered answers P []
  answered_none P h = record { replies = []; each = refl; out = h }

  -- one reply
  pub answered_one : (P : List ℕ → Type 0) (w : Wish) (r : List ℕ) → IsReply answers w r → P r → Answered answers P (w ∷ [])
  answered_one P w r reply h = record { replies = r ∷ []; each = (r, [], refl, reply, refl); out = subst P (sym (append-nil r)) h }

  -- the same replies, of which more became known
  answered_still : (P Q : List ℕ → Type 0) → ((p : List ℕ) → P p → Q p) → (ws : List Wish) → Answered answers P ws → Answered answers Q ws
  answered_still P Q leads ws h = record { replies = h.replies; each = h.each; out = leads (join h.replies) h.out }

  -- replies, and then more
  answered_then : (P Q R : List ℕ → Type 0) → ((p q : List ℕ) → P p → Q q → R (p ++ q)) → (ws vs : List Wish) → Answered answers P ws → Answered answers Q vs → Answered answers R (ws ++ vs)
  answered_then P Q R both ws vs h k = record {
    replies = h.replies ++ k.replies;
    each = Replies-append answers ws vs h.replies k.replies h.each k.each;
    out = subst R (join-append h.replies k.replies) (both (join h.replies) (join k.replies) h.out k.out);
  }

  pub flush_steps : (s : Sending) (p q : WriterState) → FlushesFrom p s q → RepliesFrom answers p [] s q
  flush_steps s Active Active h = answered_none (Sent s) h
  flush_steps s Active WriteFault h = record { front = []; left = []; cut = refl; fact = answered_none (Broke s) h }
  flush_steps s Memory Memory h = h
  flush_steps s Memory WriteFault h = h
  flush_steps s WriteFault WriteFault h = h
  flush_steps s _ _ h = absurd h

  -- no step
  pub steps_none : (f : ℕ) (a : Option (List ℕ)) (x : List ℕ) (p : WriterState) → RepliesFrom answers p [] (sending_by f f a a x x) p
  steps_none f a x Active = answered_none (Sent (sending_by f f a a x x)) (sent_none f a x)
  steps_none f a x Memory = sent_none f a x
  steps_none f a x WriteFault = (refl, refl)

  module _ (f f1 f2 : ℕ) (a b c : Option (List ℕ)) (x y z : List ℕ) where
    sent_then : (p q : List ℕ) → Sent (sending_by f f1 a b x y) p → Sent (sending_by f1 f2 b c y z) q → Sent (sending_by f f2 a c x z) (p ++ q)
    sent_then p q h k = (Moves-then a b c x p q y z refl h.0 k.0, k.1 ∙ h.1)

    broke_then : (p q : List ℕ) → Sent (sending_by f f1 a b x y) p → Broke (sending_by f1 f2 b c y z) q → Broke (sending_by f f2 a c x z) (p ++ q)
    broke_then p q h k = ((k.0.0, Moves-then a b c x p q y k.0.0 refl h.0 k.0.1), k.1 ∙ ap (λ v. v + 1) h.1)

    broke_still : (p : List ℕ) → Broke (sending_by f f1 a b x y) p → Still (sending_by f1 f2 b c y z) → Broke (sending_by f f2 a c x z) p
    broke_still p h k = ((h.0.0, subst (λ d. Moves a d (x ++ p) h.0.0) (sym k.0) h.0.1), k.1 ∙ h.1)

    -- two steps are one
    pub steps_then : (ws vs : List Wish) (p q r : WriterState) → RepliesFrom answers p ws (sending_by f f1 a b x y) q → RepliesFrom answers q vs (sending_by f1 f2 b c y z) r → RepliesFrom answers p (ws ++ vs) (sending_by f f2 a c x z) r
    steps_then ws vs Memory Active r h k = absurd h
    steps_then ws vs WriteFault Active r h k = absurd h
    steps_then ws vs WriteFault Memory r h k = absurd h
    steps_then ws vs Active Active Active h k = answered_then _ _ _ sent_then ws vs h k
    steps_then ws vs Active Active Memory h k = first_behind ws vs (λ front. answered_then _ _ _ sent_then ws front h) k
    steps_then ws vs Active Active WriteFault h k = first_behind ws vs (λ front. answered_then _ _ _ broke_then ws front h) k
    steps_then ws vs Active Memory Memory h k = first_before ws vs (answered_still _ _ (λ p g. subst (Sent (sending_by f f2 a c x z)) (append-nil p) (sent_then p [] g k))) h
    steps_then ws vs Active Memory WriteFault h k = first_before ws vs (answered_still _ _ (λ p g. subst (Broke (sending_by f f2 a c x z)) (append-nil p) (broke_then p [] g k))) h
    steps_then ws vs Active WriteFault WriteFault h k = first_before ws vs (answered_still _ _ (λ p g. broke_still p g k)) h
    steps_then ws vs Memory Memory Memory h k = sent_then [] [] h k
    steps_then ws vs Memory Memory WriteFault h k = broke_then [] [] h k
    steps_then ws vs Memory WriteFault WriteFault h k = broke_still [] h k
    steps_then ws vs WriteFault WriteFault WriteFault h k = (k.0 ∙ h.0, k.1 ∙ h.1)
    steps_then ws vs _ _ _ h k = absurd k
