-- Laws of whole lists of wishes.
use Rattle.std.proofs.Common.{◌≡◌, ℕ, ◌+◌, ◌<◌, Bool, true, false, List, [], ◌∷◌, ◌++◌, length, ◌⊎◌, inl, inr, refl, sym, ◌∙◌, ap, subst, arith, append_assoc, append-nil, length-append, Option, None, Some}
use Rattle.std.proofs.lemmas.Bool.{true≢false}
use Rattle.peer_head.specs.Blocks.{IsUnfinished}
use Rattle.peer_head.specs.Heads.{HeadParts}
use Rattle.peer_head.specs.Faults.{head_fault, is_bare}
use Rattle.peer_head.specs.declared.fault.HeadFault.{HeadFault}
use Rattle.peer_head.proofs.BlockLaws.{begins_once_law, keeps_block_law, stays_too_long_law}
use Rattle.peer_head.proofs.LookLaws.{is_one_head_law}
use Rattle.peer_source.specs.Answers.{Answer}
use Rattle.peer_reply.specs.Texts.{answer_reply}
use Rattle.peer_reply.specs.declared.wish.Wish.{Wish}
use Rattle.peer_reply.specs.declared.wish.WishBody.{WishBody}
use Rattle.peer_reply.specs.declared.wish.WishBody.TheVariants as body
use Rattle.peer_flight.specs.Events.{REPLIES}
use Rattle.peer_wish.specs.Wishes.{Asks, IsWish, no_head, refused, asked, fault_wish, head_wish, AsksInTurn, IsLastWish, too_long, closes, closes_after, OpenWishes, ClosedWishes, AreFirst, AreAll, IsWhole}
use Rattle.peer_wish.specs.Allowed.{only}
use Rattle.peer_wish.specs.Replies.{IsReply, RepliesTo, Replies}
use Rattle.peer_wish.specs.Laws.{BeginsWith, HasOneListOfWishes, BeginsWithFirst, KeepsWishes, EndsWithClosing, RepliesAgree}
use Rattle.peer_wish.proofs.WishLemmas.{Open-extend}

module _ (numbers : List ℕ → Option ℕ) where
  some_none : (f : HeadFault) (p q : HeadParts) → p ≡ q → head_fault p ≡ Some f → head_fault q ≡ None → ⊥
  some_none f p q e a b = let differ : Some f ≡ None = sym a ∙ ap head_fault e ∙ b in cc

  same_some : (f g : HeadFault) → Some f ≡ Some g → f ≡ g
  same_some f g e = cc

  -- a block has one wish
  pub wish_unique : (block : List ℕ) (v w : Wish) → IsWish numbers block v → IsWish numbers block w → v ≡ w
  wish_unique block v w (no_head none) (no_head other) = refl
  wish_unique block v w (no_head none) (refused q g y d) = absurd (none q y)
  wish_unique block v w (no_head none) (asked q y d) = absurd (none q y)
  wish_unique block v w (refused p f x e) (no_head none) = absurd (none p x)
  wish_unique block v w (refused p f x e) (refused q g y d) =
      let same = is_one_head_law block p q x y in
      ap (λ h. fault_wish h (is_bare p)) (same_some f g (sym e ∙ ap head_fault same ∙ d)) ∙ ap (λ r. fault_wish g (is_bare r)) same
  wish_unique block v w (refused p f x e) (asked q y d) = absurd (some_none f p q (is_one_head_law block p q x y) e d)
  wish_unique block v w (asked p x e) (no_head none) = absurd (none p x)
  wish_unique block v w (asked p x e) (refused q g y d) = absurd (some_none g q p (sym (is_one_head_law block p q x y)) d e)
  wish_unique block v w (asked p x e) (asked q y d) = ap (head_wish numbers) (is_one_head_law block p q x y)

  -- a text begins with one wish
  pub asks_unique : (t u u' : List ℕ) (v w : Wish) → Asks numbers t v u → Asks numbers t w u' → (v ≡ w) × (u ≡ u')
  asks_unique t u u' v w x y =
      let same = begins_once_law t x.block y.block u u' x.begins y.begins in
      (wish_unique y.block v w (subst (λ b. IsWish numbers b v) same.0 x.wish) y.wish, same.1)

  -- of two lists of wishes in turn one step on where the other ends
  pub compare : (ws vs : List Wish) (t u v : List ℕ) → AsksInTurn numbers t ws u → AsksInTurn numbers t vs v →
      ((xs : List Wish) × (vs ≡ ws ++ xs) × AsksInTurn numbers u xs v) ⊎ ((xs : List Wish) × (ws ≡ vs ++ xs) × AsksInTurn numbers v xs u)
  compare [] vs t u v h k = inl (vs, refl, subst (λ x. AsksInTurn numbers x vs v) h k)
  compare (w ∷ ws) [] t u v h k = inr (w ∷ ws, refl, subst (λ x. AsksInTurn numbers x (w ∷ ws) u) k h)
  compare (w ∷ ws) (x ∷ vs) t u v h k =
      let same = asks_unique t h.0 k.0 w x h.1 k.1 in
      let rest : AsksInTurn numbers k.0 ws u = subst (λ y. AsksInTurn numbers y ws u) same.1 h.3 in
      elim (compare ws vs k.0 u v rest k.3) as (λ _. ((xs : List Wish) × (x ∷ vs ≡ w ∷ (ws ++ xs)) × AsksInTurn numbers u xs v) ⊎ ((xs : List Wish) × (w ∷ ws ≡ x ∷ (vs ++ xs)) × AsksInTurn numbers v xs u)) [
        | inl d ↦ inl (d.0, ap (λ y. y ∷ vs) (sym same.0) ∙ ap (λ y. w ∷ y) d.1, d.2)
        | inr d ↦ inr (d.0, ap (λ y. y ∷ ws) same.0 ∙ ap (λ y. x ∷ y) d.1, d.2)
      ]

  -- where a wish closes, the text is not unfinished ..
  pub last_unfinished : (n : ℕ) (t : List ℕ) (w : Wish) → IsLastWish numbers n t w → IsUnfinished t → ⊥
  last_unfinished n t w (too_long h) k = omega (arith, h.long, k.short)
  last_unfinished n t w (closes v rest asks e) k = k.none asks.block rest asks.begins

  -- .. and no wish follows that stays open
  pub last_open : (n : ℕ) (t u : List ℕ) (w x : Wish) (xs : List Wish) → IsLastWish numbers n t w → AsksInTurn numbers t (x ∷ xs) u → n + 1 < REPLIES → ⊥
  last_open n t u w x xs (too_long h) k lt = h.none k.1.block k.0 k.1.begins
  last_open n t u w x xs (closes v rest asks e) k lt =
      let same = asks_unique t rest k.0 v x asks k.1 in
      not_last n x.closing lt k.2 (ap (λ y. closes_after n y.closing) (sym same.0) ∙ e)
    where
      not_last : (n : ℕ) (closing : Bool) → n + 1 < REPLIES → closing ≡ false → closes_after n closing ≡ true → ⊥
      not_last n true lt open_wish e = absurd (true≢false open_wish)
      not_last n false lt open_wish e = grind (arith, e)

  -- a text has one wish that closes
  pub last_unique : (n : ℕ) (t : List ℕ) (v w : Wish) → IsLastWish numbers n t v → IsLastWish numbers n t w → v ≡ w
  last_unique n t v w (too_long h) (too_long k) = refl
  last_unique n t v w (too_long h) (closes y rest asks e) = absurd (h.none asks.block rest asks.begins)
  last_unique n t v w (closes x rest asks e) (too_long k) = absurd (k.none asks.block rest asks.begins)
  last_unique n t v w (closes x rest asks e) (closes y rest' asks' e') =
      let same = asks_unique t rest rest' x y asks asks' in let close : Wish → Wish = λ z. record z { closing = true } in ap close same.0

  unfinished_open : (t u : List ℕ) (x : Wish) (xs : List Wish) → IsUnfinished t → AsksInTurn numbers t (x ∷ xs) u → ⊥
  unfinished_open t u x xs h k = h.none k.1.block k.0 k.1.begins

  count_more : (n : ℕ) (ws front : List Wish) (x : Wish) (xs : List Wish) → n + length ws < REPLIES → ws ≡ front ++ x ∷ xs → (n + length front) + 1 < REPLIES
  count_more n ws front x xs lt e = omega (arith, lt, ap length e, length-append front (x ∷ xs))

  -- two closed lists are one
  closed_same : (n : ℕ) (t : List ℕ) (ws vs : List Wish) → ClosedWishes numbers n t ws → ClosedWishes numbers n t vs → vs ≡ ws
  closed_same n t ws vs h k =
      elim (compare h.front k.front t h.at k.at h.opens.asks k.opens.asks) as (λ _. vs ≡ ws) [
        | inl d ↦ later h k d.0 d.1 d.2
        | inr d ↦ sym (later k h d.0 d.1 d.2)
      ]
    where
      later : {ws vs : List Wish} (h : ClosedWishes numbers n t ws) (k : ClosedWishes numbers n t vs) (xs : List Wish) → k.front ≡ h.front ++ xs → AsksInTurn numbers h.at xs k.at → vs ≡ ws
      later h k [] e asks =
          let fronts : k.front ≡ h.front = e ∙ append-nil h.front in
          let count : n + length k.front ≡ n + length h.front = ap (λ v. n + length v) fronts in
          let closes_there : IsLastWish numbers (n + length h.front) h.at k.last =
          subst (λ c. IsLastWish numbers c h.at k.last) count (subst (λ x. IsLastWish numbers (n + length k.front) x k.last) (sym asks) k.closes) in
          k.all ∙ ap (λ v. v ++ k.last ∷ []) fronts ∙ ap (λ w. h.front ++ w ∷ []) (last_unique (n + length h.front) h.at k.last h.last closes_there h.closes) ∙ sym h.all
      later h k (x ∷ xs) e asks = absurd (last_open (n + length h.front) h.at k.at h.last x xs h.closes asks (count_more n k.front h.front x xs k.opens.count e))

  -- open wishes are the first of closed ones
  open_closed : (n : ℕ) (t u : List ℕ) (ws vs : List Wish) → OpenWishes numbers n t ws u → ClosedWishes numbers n t vs → BeginsWith vs ws
  open_closed n t u ws vs h k =
      elim (compare ws k.front t u k.at h.asks k.opens.asks) as (λ _. BeginsWith vs ws) [
        | inl d ↦ (d.0 ++ k.last ∷ [], k.all ∙ ap (λ v. v ++ k.last ∷ []) d.1 ∙ append_assoc ws d.0 (k.last ∷ []))
        | inr d ↦ beyond d.0 d.1 d.2
      ]
    where
      beyond : (xs : List Wish) → ws ≡ k.front ++ xs → AsksInTurn numbers k.at xs u → BeginsWith vs ws
      beyond [] e asks = (k.last ∷ [], k.all ∙ ap (λ v. v ++ k.last ∷ []) (sym (e ∙ append-nil k.front)))
      beyond (x ∷ xs) e asks = absurd (last_open (n + length k.front) k.at u k.last x xs k.closes asks (count_more n ws k.front x xs h.count e))

  -- of two lists of first wishes one begins with the other
  pub first_compare : (n : ℕ) (t : List ℕ) (ws vs : List Wish) → AreFirst numbers n t ws → AreFirst numbers n t vs → BeginsWith vs ws ⊎ BeginsWith ws vs
  first_compare n t ws vs (inl h) (inl k) =
      elim (compare ws vs t h.0 k.0 h.1.asks k.1.asks) as (λ _. BeginsWith vs ws ⊎ BeginsWith ws vs) [ inl d ↦ inl (d.0, d.1) | inr d ↦ inr (d.0, d.1) ]
  first_compare n t ws vs (inl h) (inr k) = inl (open_closed n t h.0 ws vs h.1 k)
  first_compare n t ws vs (inr h) (inl k) = inr (open_closed n t k.0 vs ws k.1 h)
  first_compare n t ws vs (inr h) (inr k) = inl ([], closed_same n t ws vs h k ∙ sym (append-nil ws))

  -- first wishes are the first of a whole list
  first_all : (n : ℕ) (t rest : List ℕ) (ws vs : List Wish) → AreFirst numbers n t ws → AreAll numbers n t vs rest → BeginsWith vs ws
  first_all n t rest ws vs (inl h) k =
      elim (compare ws vs t h.0 rest h.1.asks k.opens.asks) as (λ _. BeginsWith vs ws) [ inl d ↦ (d.0, d.1) | inr d ↦ beyond d.0 d.1 d.2 ]
    where
      beyond : (xs : List Wish) → ws ≡ vs ++ xs → AsksInTurn numbers rest xs h.0 → BeginsWith vs ws
      beyond [] e asks = ([], sym (append-nil ws ∙ e ∙ append-nil vs))
      beyond (x ∷ xs) e asks = absurd (unfinished_open rest h.0 x xs k.unfinished asks)
  first_all n t rest ws vs (inr h) k =
      elim (compare h.front vs t h.at rest h.opens.asks k.opens.asks) as (λ _. BeginsWith vs ws) [ inl d ↦ later d.0 d.1 d.2 | inr d ↦ beyond d.0 d.1 d.2 ]
    where
      later : (xs : List Wish) → vs ≡ h.front ++ xs → AsksInTurn numbers h.at xs rest → BeginsWith vs ws
      later [] e asks = absurd (last_unfinished (n + length h.front) h.at h.last h.closes (subst IsUnfinished (sym asks) k.unfinished))
      later (x ∷ xs) e asks = absurd (last_open (n + length h.front) h.at rest h.last x xs h.closes asks (count_more n vs h.front x xs k.opens.count e))

      beyond : (xs : List Wish) → h.front ≡ vs ++ xs → AsksInTurn numbers rest xs h.at → BeginsWith vs ws
      beyond [] e asks = absurd (last_unfinished (n + length h.front) h.at h.last h.closes (subst IsUnfinished asks k.unfinished))
      beyond (x ∷ xs) e asks = absurd (unfinished_open rest h.at x xs k.unfinished asks)

  first_closed : (n : ℕ) (t : List ℕ) (ws vs : List Wish) → AreFirst numbers n t ws → ClosedWishes numbers n t vs → BeginsWith vs ws
  first_closed n t ws vs (inl h) k = open_closed n t h.0 ws vs h.1 k
  first_closed n t ws vs (inr h) k = ([], closed_same n t ws vs h k ∙ sym (append-nil ws))

  whole_first : (n : ℕ) (t : List ℕ) (ws : List Wish) → IsWhole numbers n t ws → AreFirst numbers n t ws
  whole_first n t ws (inl h) = inr h
  whole_first n t ws (inr h) = inl (h.0, h.1.opens)

-- no more behind a list that begins with itself
no_more : (ws vs xs ys : List Wish) → vs ≡ ws ++ xs → ws ≡ vs ++ ys → ws ≡ vs
no_more ws vs [] ys e d = sym (e ∙ append-nil ws)
no_more ws vs (x ∷ xs) ys e d = absurd (omega (arith, ap length e, ap length d, length-append ws (x ∷ xs), length-append vs ys))

pub begins_with_first_law : BeginsWithFirst
begins_with_first_law numbers n t ws vs h (inl k) = first_closed numbers n t ws vs h k
begins_with_first_law numbers n t ws vs h (inr k) = first_all numbers n t k.0 ws vs h k.1

pub has_one_list_law : HasOneListOfWishes
has_one_list_law numbers n t ws vs h k =
    let one = begins_with_first_law numbers n t ws vs (whole_first numbers n t ws h) k in
    let other = begins_with_first_law numbers n t vs ws (whole_first numbers n t vs k) h in
    no_more ws vs one.0 other.0 one.1 other.1

-- a wish that closes stays one
last_extend : (numbers : List ℕ → Option ℕ) (n : ℕ) (t more : List ℕ) (w : Wish) → IsLastWish numbers n t w → IsLastWish numbers n (t ++ more) w
last_extend numbers n t more w (too_long h) = too_long (stays_too_long_law t more h)
last_extend numbers n t more w (closes v rest asks e) =
    closes v (rest ++ more) (record { block = asks.block; begins = keeps_block_law t asks.block rest more asks.begins; wish = asks.wish }) e

closed_extend : (numbers : List ℕ → Option ℕ) (n : ℕ) (t more : List ℕ) (ws : List Wish) → ClosedWishes numbers n t ws → ClosedWishes numbers n (t ++ more) ws
closed_extend numbers n t more ws h = record {
  front = h.front;
  last = h.last;
  at = h.at ++ more;
  opens = Open-extend numbers n t h.front h.at more h.opens;
  closes = last_extend numbers (n + length h.front) h.at more h.last h.closes;
  all = h.all;
}

pub keeps_wishes_law : KeepsWishes
keeps_wishes_law numbers n t more ws (inl h) = inl (h.0 ++ more, Open-extend numbers n t ws h.0 more h.1)
keeps_wishes_law numbers n t more ws (inr h) = inr (closed_extend numbers n t more ws h)

pub ends_with_closing_law : EndsWithClosing
ends_with_closing_law numbers n t more ws vs h k =
    let all = first_closed numbers n (t ++ more) (ws ++ vs) ws k (closed_extend numbers n t more ws h) in
    nothing ws vs all.0 all.1
  where
    nothing : (ws vs xs : List Wish) → ws ≡ (ws ++ vs) ++ xs → vs ≡ []
    nothing ws [] xs e = refl
    nothing ws (v ∷ vs) xs e = absurd (omega (arith, ap length e, length-append (ws ++ v ∷ vs) xs, length-append ws (v ∷ vs)))

module _ (answer : ℕ → List ℕ → Answer) where
  -- a wish has one reply
  pub reply_unique : (w : Wish) (r q : List ℕ) → IsReply (only answer) w r → IsReply (only answer) w q → r ≡ q
  reply_unique w r q x y = by_body w.closing w.bare w.body x y
    where
      by_body : (c b : Bool) (body : WishBody) → RepliesTo (only answer) c b body r → RepliesTo (only answer) c b body q → r ≡ q
      by_body c b (body.Fault f) x y = x ∙ sym y
      by_body c b (body.Get g k) x y = x.2 ∙ ap (answer_reply c b) (x.1 ∙ sym y.1) ∙ sym y.2

  pub replies_begin : (ws xs : List Wish) (rs ss : List (List ℕ)) → Replies (only answer) ws rs → Replies (only answer) (ws ++ xs) ss → BeginsWith ss rs
  replies_begin [] xs rs ss h k = (ss, ap (λ v. v ++ ss) (sym h))
  replies_begin (w ∷ ws) xs rs ss h k =
      let rest = replies_begin ws xs h.1 k.1 h.4 k.4 in
      (rest.0, k.2 ∙ ap (λ r. r ∷ k.1) (reply_unique w k.0 h.0 k.3 h.3) ∙ ap (λ v. h.0 ∷ v) rest.1 ∙ ap (λ v. v ++ rest.0) (sym h.2))

pub replies_agree_law : RepliesAgree
replies_agree_law numbers answer n t ws vs rs ss h k x y =
    elim (first_compare numbers n t ws vs h k) as (λ _. BeginsWith ss rs ⊎ BeginsWith rs ss) [
      | inl d ↦ inl (replies_begin answer ws d.0 rs ss x (subst (λ v. Replies (only answer) v ss) d.1 y))
      | inr d ↦ inr (replies_begin answer vs d.0 ss rs y (subst (λ v. Replies (only answer) v rs) d.1 x))
    ]
