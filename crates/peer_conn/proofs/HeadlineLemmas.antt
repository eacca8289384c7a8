-- What a connection writes is a prefix of replies to all wishes of what it read, where each group and key has an answer.
use Rattle.std.proofs.Common.{◌≡◌, ℕ, List, [], ◌++◌, inl, inr, refl, arith, Option, sym, ◌∙◌, ap, subst, append_assoc, append-nil}
use Rattle.std.specs.Io.KnownBytes.{Appends}
use Rattle.peer_source.specs.Answers.{Answer}
use Rattle.peer_reply.specs.declared.wish.Wish.{Wish}
use Rattle.peer_reply.specs.Joins.{join}
use Rattle.peer_reply.proofs.JoinLemmas.{join-append}
use Rattle.peer_wish.specs.Allowed.{allows}
use Rattle.peer_wish.specs.Wishes.{AreFirst, IsWhole}
use Rattle.peer_wish.specs.Replies.{Replies, AreFrontOfReplies}
use Rattle.peer_wish.specs.declared.end.End.{End}
use Rattle.peer_wish.specs.declared.end.End.TheVariants as end
use Rattle.peer_wish.proofs.ReplyLemmas.{Replies-append, replies_of}
use Rattle.peer_wish.proofs.TextLemmas.{whole}
use Rattle.peer_wish.proofs.WholeLemmas.{begins_with_first_law}
use Rattle.peer_conn.specs.Headline.{WritesReplies}
use Rattle.peer_conn.specs.Ends.{Reading, Writing, IsWritten, EndsAs, Serves}
use Rattle.peer_conn.specs.Stops.{StopsAs}
use Rattle.peer_conn.specs.declared.end.ReaderStop.{ReaderStop}
use Rattle.peer_conn.specs.declared.end.ReaderStop.TheVariants as stop
use Rattle.peer_conn.proofs.RequestLemmas.{firsts}

module _ (numbers : List ℕ → Option ℕ) (answers : ℕ → List ℕ → Answer → Type 0) (some : (g : ℕ) (k : List ℕ) → (a : Answer) × answers g k a) (r : Reading) (w : Writing) (t o : List ℕ) (gave : Appends r.given r.given' t) (took : Appends w.taken w.taken' o) where
  -- a front of replies to first wishes is a front of replies to all wishes
  of_front : (e : End) (ws : List Wish) → (e ≡ end.Clean → ⊥) → AreFirst numbers 0 t ws → AreFrontOfReplies answers ws o → WritesReplies numbers answers r w e
  of_front e ws other first h =
      let all = whole numbers 0 t (omega arith) in
      let more = begins_with_first_law numbers 0 t ws all.0 first all.1 in
      let behind = replies_of answers some more.0 in
      let P : List Wish → Type 0 = λ v. Replies answers v (h.replies ++ behind.0) in
      record {
        text = t;
        output = o;
        gave = gave;
        took = took;
        replies = h.replies ++ behind.0;
        all = record { wishes = all.0; whole = all.1; each = subst P (sym more.1) (Replies-append answers ws more.0 h.replies behind.0 h.each behind.1) };
        rest = h.rest ++ join behind.0;
        prefix = sym (append_assoc o h.rest (join behind.0)) ∙ ap (λ v. v ++ join behind.0) h.front ∙ join-append h.replies behind.0;
        clean = λ is. absurd (other is);
      }

  of_answered : (reads : ℕ) (e : End) (c : ReaderStop) → (e ≡ end.Clean → ⊥) → IsWritten answers w (λ ws. StopsAs numbers 0 reads r t ws c) o → WritesReplies numbers answers r w e
  of_answered reads e c other h =
      let whole = h.answered.replies in
      of_front e h.answered.wishes other (firsts numbers 0 reads r t h.answered.wishes c h.answered.are) (record { replies = whole.replies; each = whole.each; rest = []; front = append-nil o ∙ whole.all })

  writes : (reads : ℕ) (e : End) → EndsAs numbers answers reads r w t o e → WritesReplies numbers answers r w e
  writes reads end.Clean h = record {
    text = t;
    output = o;
    gave = gave;
    took = took;
    replies = h.answered.replies.replies;
    all = record {
      wishes = h.answered.wishes;
      whole = elim h.answered.are as (λ _. IsWhole numbers 0 t h.answered.wishes) [ inl c ↦ inl c.0 | inr c ↦ inr (c.0.0, c.0.1) ];
      each = h.answered.replies.each;
    };
    rest = [];
    prefix = append-nil o ∙ h.answered.replies.all;
    clean = λ is. refl;
  }
  writes reads end.WriteFault h = of_front end.WriteFault h.wishes (λ is. cc) h.first h.replies
  writes reads end.Cut h = of_answered reads end.Cut stop.Cut (λ is. cc) h
  writes reads end.ReadFault h = of_answered reads end.ReadFault stop.ReadFault (λ is. cc) h
  writes reads end.Spent h = of_answered reads end.Spent stop.Spent (λ is. cc) h
  writes reads e h = of_answered reads e stop.Stopped (λ is. cc) h

-- a connection writes a front of replies to all wishes, where each group and key has an answer
pub written : (numbers : List ℕ → Option ℕ) (answers : ℕ → List ℕ → Answer → Type 0) {reads : ℕ} {r : Reading} {w : Writing} {e : End} → ((g : ℕ) (k : List ℕ) → (a : Answer) × answers g k a) → Serves numbers answers reads r w e → WritesReplies numbers answers r w e
written numbers answers {reads} {r} {w} {e} some h = writes numbers answers some r w h.text h.output h.gave h.took reads e h.ends

-- .. and under the answers that may be given
pub written_allowed : {numbers : List ℕ → Option ℕ} {given allowed : ℕ → List ℕ → Answer → Type 0} {reads : ℕ} {r : Reading} {w : Writing} {e : End} → ((g : ℕ) (k : List ℕ) → (a : Answer) × given g k a) → ((g : ℕ) (k : List ℕ) (a : Answer) → given g k a → allowed g k a) →
    Serves numbers (allows allowed) reads r w e → WritesReplies numbers (allows allowed) r w e
written_allowed {numbers} {given} {allowed} answered within h = written numbers (allows allowed) (λ g k. ((answered g k).0, ∣ within g k (answered g k).0 (answered g k).1 ∣₁)) h
