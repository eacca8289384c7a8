-- What holds of a connection under a relation of answers holds under any that has the same replies.
use Rattle.std.proofs.Common.{◌≡◌, subst, ℕ, Bool, List, Option}
use Rattle.peer_source.specs.Answers.{Answer}
use Rattle.peer_reply.specs.declared.wish.Wish.{Wish}
use Rattle.peer_wish.specs.Replies.{AreFrontOfReplies}
use Rattle.peer_wish.specs.declared.end.End.{End}
use Rattle.peer_wish.specs.declared.end.End.TheVariants as end
use Rattle.peer_wish.proofs.ReplyLemmas.{IsReplyOf, replies, answered_under}
use Rattle.peer_conn.specs.Ends.{Reading, Writing, AreEnded, EndsAs, Serves}
use Rattle.peer_conn.specs.Connects.{Connects}

module _ (A B : ℕ → List ℕ → Answer → Type 0) (carries : (closing bare : Bool) (g : ℕ) (k r : List ℕ) → IsReplyOf A closing bare g k r → IsReplyOf B closing bare g k r) where
  front : (ws : List Wish) (o : List ℕ) → AreFrontOfReplies A ws o → AreFrontOfReplies B ws o
  front ws o h = record { replies = h.replies; each = replies A B carries ws h.replies h.each; rest = h.rest; front = h.front }

  module _ (numbers : List ℕ → Option ℕ) (reads : ℕ) (r : Reading) (w : Writing) where
    pub ends : (t o : List ℕ) (e : End) → EndsAs numbers A reads r w t o e → EndsAs numbers B reads r w t o e
    ends t o end.WriteFault h = record { wishes = h.wishes; replies = front h.wishes o h.replies; first = h.first; failed = h.failed }
    ends t o e h = record { answered = answered_under A B carries (AreEnded numbers reads r t e) o h.answered; wrote = h.wrote }

    whole_call : (e : End) → Serves numbers A reads r w e → Serves numbers B reads r w e
    whole_call e h = record { text = h.text; output = h.output; gave = h.gave; took = h.took; calls = h.calls; ends = ends h.text h.output e h.ends }

    -- the numbers may have another name too
    pub serves : {numbers' : List ℕ → Option ℕ} (e : End) → numbers ≡ numbers' → Serves numbers A reads r w e → Serves numbers' B reads r w e
    serves e same h = subst (λ v. Serves v B reads r w e) same (whole_call e h)

    pub connects_too : {numbers' : List ℕ → Option ℕ} (asked asked' : ℕ) (e : End) → numbers ≡ numbers' → Connects numbers A reads r w asked asked' e → Connects numbers' B reads r w asked asked' e
    unfolding whole_call
    connects_too asked asked' e same h = subst (λ v. Connects v B reads r w asked asked' e) same (record { serves = whole_call e h.serves; wishes = h.wishes; asks = h.asks; counted = h.counted })
