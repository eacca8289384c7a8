-- Laws of the replies to wishes.
use Rattle.std.proofs.Common.{◌≡◌, ◌∙◌, ap, sym, subst, refl, ℕ, Bool, List, [], ◌∷◌, ◌++◌}
use mathlib.Core.Logic.{∥∥₁_elim}
use base.Stored.{Coded-set}
use Rattle.std.specs.Coded.{coded_ℕ, coded_list}
use Rattle.peer_source.specs.Answers.{Answer}
use Rattle.peer_reply.specs.Texts.{fault_reply, answer_reply}
use Rattle.peer_reply.specs.declared.wish.Wish.{Wish}
use Rattle.peer_reply.specs.declared.wish.WishBody.{WishBody}
use Rattle.peer_reply.specs.declared.wish.WishBody.TheVariants as body
use Rattle.peer_wish.specs.Ends.{IsAnswered}
use Rattle.peer_wish.specs.Replies.{IsReply, RepliesTo, Replies, AreReplies}

pub Replies-append : (answers : ℕ → List ℕ → Answer → Type 0) (ws vs : List Wish) (rs ss : List (List ℕ)) → Replies answers ws rs → Replies answers vs ss → Replies answers (ws ++ vs) (rs ++ ss)
Replies-append answers [] vs rs ss h k = subst (λ x. Replies answers vs (x ++ ss)) (sym h) k
Replies-append answers (w ∷ ws) vs rs ss h k = (h.0, h.1 ++ ss, ap (λ x. x ++ ss) h.2, h.3, Replies-append answers ws vs h.1 ss h.4 k)

module _ (answers : ℕ → List ℕ → Answer → Type 0) (some : (g : ℕ) (k : List ℕ) → (a : Answer) × answers g k a) where
  -- a reply to a wish
  reply_of : (w : Wish) → (r : List ℕ) × IsReply answers w r
  reply_of w = by_body w.closing w.bare w.body
    where
      by_body : (c b : Bool) (body : WishBody) → (r : List ℕ) × RepliesTo answers c b body r
      by_body c b (body.Fault f) = (fault_reply c b f, refl)
      by_body c b (body.Get g k) =
          let a = some g.number k in
          (answer_reply c b a.0, (a.0, a.1, refl))

  -- wishes have a list of replies
  pub replies_of : (ws : List Wish) → (rs : List (List ℕ)) × Replies answers ws rs
  replies_of [] = ([], refl)
  replies_of (w ∷ ws) =
      let r = reply_of w in
      let rest = replies_of ws in
      (r.0 ∷ rest.0, (r.0, rest.0, refl, r.1, rest.1))

-- a reply to one of the answers that a relation gives
abbrev pub IsReplyOf : (ℕ → List ℕ → Answer → Type 0) → Bool → Bool → ℕ → List ℕ → List ℕ → Type 0
IsReplyOf answers closing bare g k r = (a : Answer) × answers g k a × (r ≡ answer_reply closing bare a)

-- what is merely the one answer has its reply, since replies are texts
pub merely_its_reply : (closing bare : Bool) (P : Type 0) (a b : Answer) (r : List ℕ) → ∥ P ∥₁ → (P → a ≡ b) → r ≡ answer_reply closing bare a → r ≡ answer_reply closing bare b
merely_its_reply closing bare P a b r h same e = ∥∥₁_elim h (Coded-set (coded_list coded_ℕ) r (answer_reply closing bare b)) (λ p. e ∙ ap (answer_reply closing bare) (same p))

-- what holds under a relation of answers holds under any that has the same replies
module _ (A B : ℕ → List ℕ → Answer → Type 0) (carries : (closing bare : Bool) (g : ℕ) (k r : List ℕ) → IsReplyOf A closing bare g k r → IsReplyOf B closing bare g k r) where
  pub replies_to : (closing bare : Bool) (b : WishBody) (r : List ℕ) → RepliesTo A closing bare b r → RepliesTo B closing bare b r
  replies_to closing bare (body.Fault f) r h = h
  replies_to closing bare (body.Get group key) r h = carries closing bare group.number key r h

  pub replies : (ws : List Wish) (rs : List (List ℕ)) → Replies A ws rs → Replies B ws rs
  replies [] rs h = h
  replies (w ∷ ws) rs h = (h.0, h.1, h.2, replies_to w.closing w.bare w.body h.0 h.3, replies ws h.1 h.4)

  pub are_replies : (ws : List Wish) (o : List ℕ) → AreReplies A ws o → AreReplies B ws o
  are_replies ws o h = record { replies = h.replies; each = replies ws h.replies h.each; all = h.all }

  pub answered_under : (AreOf : List Wish → Type 0) (o : List ℕ) → IsAnswered A AreOf o → IsAnswered B AreOf o
  answered_under AreOf o h = record { wishes = h.wishes; are = h.are; replies = are_replies h.wishes o h.replies }
