-- Laws of the wishes of a text.
use Rattle.std.proofs.Common.{◌≡◌, ℕ, ◌+◌, ◌<◌, Bool, true, false, List, [], ◌∷◌, ◌++◌, length, ◌⊎◌, inl, inr, refl, sym, ◌∙◌, ap, subst, arith, append_assoc, length-append, Option}
use Rattle.std.proofs.lemmas.Bool.{true≢false}
use Rattle.peer_head.specs.Blocks.{Begins, HasBlock}
use Rattle.peer_head.specs.Heads.{HeadParts}
use Rattle.peer_head.specs.Looks.{ShowsHead, IsFault, too_long as TooLong, no_head as NoHead, of_head}
use Rattle.peer_head.specs.declared.fault.HeadFault.{HeadFault}
use Rattle.peer_head.proofs.BlockLaws.{begins_once_law, keeps_block_law}
use Rattle.peer_reply.specs.declared.wish.Wish.{Wish}
use Rattle.peer_flight.specs.Events.{REPLIES}
use Rattle.peer_wish.specs.Wishes.{Asks, no_head, refused, asked, head_wish, fault_wish, AsksInTurn, IsLastWish, too_long as TooLongLast, closes, closes_after, OpenWishes, ClosedWishes, AreFirst}
use Rattle.peer_wish.specs.Nexts.{IsNextWish, too_long, first, AsksOpen}

module _ (numbers : List ℕ → Option ℕ) where
  -- what a look at a fault tells of the next wish ..
  pub fault_next : (t : List ℕ) (f : HeadFault) (bare : Bool) → IsFault t f bare → IsNextWish numbers t (fault_wish f bare)
  fault_next t f bare (TooLong h) = too_long h
  fault_next t f bare (NoHead block rest begins none) = first _ rest (record { block = block; begins = begins; wish = no_head none })
  fault_next t f bare (of_head block rest begins p head g e) = first _ rest (record { block = block; begins = begins; wish = refused p g head e })

  -- .. and a look at a head
  pub head_next : (t : List ℕ) (p : HeadParts) → ShowsHead t p → IsNextWish numbers t (head_wish numbers p)
  head_next t p h = first _ h.rest (record { block = h.block; begins = h.begins; wish = asked p h.head h.fine })

  pub AsksInTurn-append : (ws vs : List Wish) (t u v : List ℕ) → AsksInTurn numbers t ws u → AsksInTurn numbers u vs v → AsksInTurn numbers t (ws ++ vs) v
  AsksInTurn-append [] vs t u v h k = subst (λ x. AsksInTurn numbers x vs v) (sym h) k
  AsksInTurn-append (w ∷ ws) vs t u v h k = (h.0, h.1, h.2, AsksInTurn-append ws vs h.0 u v h.3 k)

  pub AsksInTurn-split : (ws vs : List Wish) (t v : List ℕ) → AsksInTurn numbers t (ws ++ vs) v → (u : List ℕ) × AsksInTurn numbers t ws u × AsksInTurn numbers u vs v
  AsksInTurn-split [] vs t v h = (t, refl, h)
  AsksInTurn-split (w ∷ ws) vs t v h =
      let rest = AsksInTurn-split ws vs h.0 v h.3 in (rest.0, (h.0, h.1, h.2, rest.1), rest.2)

  pub AsksInTurn-extend : (ws : List Wish) (t u x : List ℕ) → AsksInTurn numbers t ws u → AsksInTurn numbers (t ++ x) ws (u ++ x)
  AsksInTurn-extend [] t u x h = ap (λ v. v ++ x) h
  AsksInTurn-extend (w ∷ ws) t u x h =
      (h.0 ++ x, record { block = h.1.block; begins = keeps_block_law t h.1.block h.0 x h.1.begins; wish = h.1.wish }, h.2, AsksInTurn-extend ws h.0 u x h.3)

  -- no wish yet
  pub Open-none : (n : ℕ) (t : List ℕ) → n < REPLIES → OpenWishes numbers n t [] t
  Open-none n t h = record { asks = refl; count = omega arith }

  -- more bytes only add wishes
  pub Open-extend : (n : ℕ) (t : List ℕ) (ws : List Wish) (u x : List ℕ) → OpenWishes numbers n t ws u → OpenWishes numbers n (t ++ x) ws (u ++ x)
  Open-extend n t ws u x h = record { asks = AsksInTurn-extend ws t u x h.asks; count = h.count }

  pub Open-append : (n m : ℕ) (t u v : List ℕ) (ws vs : List Wish) → OpenWishes numbers n t ws u → m ≡ n + length ws → OpenWishes numbers m u vs v → OpenWishes numbers n t (ws ++ vs) v
  Open-append n m t u v ws vs h e k = record { asks = AsksInTurn-append ws vs t u v h.asks k.asks; count = omega (arith, length-append ws vs, k.count) }

  pub Open-one : (n : ℕ) (t u : List ℕ) (w : Wish) → AsksOpen numbers n t w u → OpenWishes numbers n t (w ∷ []) u
  Open-one n t u w h = record { asks = (u, h.asks, h.stays_open, refl); count = omega (arith, h.count) }

  pub Closed-append : (n m : ℕ) (t u : List ℕ) (ws vs : List Wish) → OpenWishes numbers n t ws u → m ≡ n + length ws → ClosedWishes numbers m u vs → ClosedWishes numbers n t (ws ++ vs)
  Closed-append n m t u ws vs h e k =
      let count : m + length k.front ≡ n + length (ws ++ k.front) = omega (arith, length-append ws k.front) in
      record {
        front = ws ++ k.front;
        last = k.last;
        at = k.at;
        opens = Open-append n m t u k.at ws k.front h e k.opens;
        closes = subst (λ c. IsLastWish numbers c k.at k.last) count k.closes;
        all = ap (λ v. ws ++ v) k.all ∙ sym (append_assoc ws k.front (k.last ∷ []));
      }

  pub Closed-one : (n : ℕ) (t : List ℕ) (w : Wish) → n < REPLIES → IsLastWish numbers n t w → ClosedWishes numbers n t (w ∷ [])
  Closed-one n t w lt h = let same : n ≡ n + length {A = Wish} [] = omega arith in record { front = []; last = w; at = t; opens = Open-none n t lt; closes = subst (λ c. IsLastWish numbers c t w) same h; all = refl }

  -- the first wishes of what is left follow those before
  pub First-append : (n m : ℕ) (t u : List ℕ) (ws vs : List Wish) → OpenWishes numbers n t ws u → m ≡ n + length ws → AreFirst numbers m u vs → AreFirst numbers n t (ws ++ vs)
  First-append n m t u ws vs h e (inl k) = inl (k.0, Open-append n m t u k.0 ws vs h e k.1)
  First-append n m t u ws vs h e (inr k) = inr (Closed-append n m t u ws vs h e k)

  -- the next wish, where its reply closes ..
  pub next_closes : (n : ℕ) (t : List ℕ) (w : Wish) → IsNextWish numbers t w → closes_after n w.closing ≡ true → IsLastWish numbers n t (record w { closing = true })
  next_closes n t w (too_long h) e = TooLongLast h
  next_closes n t w (first v rest asks) e = closes v rest asks e

  stays_open : (n : ℕ) (closing : Bool) → closes_after n closing ≡ false → closing ≡ false
  stays_open n true e = e
  stays_open n false e = refl

  one_more : (n : ℕ) (closing : Bool) → n < REPLIES → closes_after n closing ≡ false → n + 1 < REPLIES
  one_more n closing h e = grind arith

  -- .. and where it does not
  pub next_block : (n : ℕ) (t : List ℕ) (w : Wish) → IsNextWish numbers t w → closes_after n w.closing ≡ false → HasBlock t
  next_block n t w (too_long h) e = absurd (true≢false e)
  next_block n t w (first v rest asks) e = (asks.block, (rest, asks.begins))

  pub next_stays : (n : ℕ) (t : List ℕ) (w : Wish) (u : List ℕ) → IsNextWish numbers t w → closes_after n w.closing ≡ false → n < REPLIES → (block : List ℕ) × Begins t block u → AsksOpen numbers n t w u
  next_stays n t w u (too_long h) e lt b = absurd (true≢false e)
  next_stays n t w u (first v rest asks) e lt b =
      let same = begins_once_law t asks.block b.0 rest u asks.begins b.1 in
      record { asks = subst (λ x. Asks numbers t v x) same.1 asks; stays_open = stays_open n v.closing e; count = one_more n v.closing lt e }

-- where two lists end in one element, the first is within the other, or all of it
cut_front : (ws vs front : List Wish) (x : Wish) → ws ++ vs ≡ front ++ x ∷ [] → ((zs : List Wish) × (front ≡ ws ++ zs)) ⊎ (ws ≡ front ++ x ∷ [])
cut_front [] vs front x e = inl (front, refl)
cut_front (w ∷ ws) vs [] x e = inr (cut_one ws vs w x e)
  where
    cut_one : (ws vs : List Wish) (w x : Wish) → w ∷ (ws ++ vs) ≡ x ∷ [] → w ∷ ws ≡ x ∷ []
    cut_one [] vs w x e = let same : w ≡ x = cc in ap (λ y. y ∷ []) same
    cut_one (v ∷ ws) vs w x e = cc
cut_front (w ∷ ws) vs (f ∷ front) x e =
    let heads : w ≡ f = cc in
    let tails : ws ++ vs ≡ front ++ x ∷ [] = cc in
    elim (cut_front ws vs front x tails) as (λ _. ((zs : List Wish) × (f ∷ front ≡ w ∷ (ws ++ zs))) ⊎ (w ∷ ws ≡ f ∷ (front ++ x ∷ []))) [
      | inl h ↦ inl (h.0, cc)
      | inr h ↦ inr cc
    ]

module _ (numbers : List ℕ → Option ℕ) where
  first_open : (ws vs : List Wish) (n : ℕ) (t u : List ℕ) → OpenWishes numbers n t (ws ++ vs) u → (v : List ℕ) × OpenWishes numbers n t ws v
  first_open ws vs n t u h =
      let cut = AsksInTurn-split numbers ws vs t u h.asks in (cut.0, record { asks = cut.1; count = omega (arith, h.count, length-append ws vs) })

  first_closed : (ws vs : List Wish) (n : ℕ) (t : List ℕ) → ClosedWishes numbers n t (ws ++ vs) → AreFirst numbers n t ws
  first_closed ws vs n t h =
      elim (cut_front ws vs h.front h.last h.all) as (λ _. AreFirst numbers n t ws) [
        | inl k ↦ inl (first_open ws k.0 n t h.at (subst (λ x. OpenWishes numbers n t x h.at) k.1 h.opens))
        | inr k ↦ inr (record { front = h.front; last = h.last; at = h.at; opens = h.opens; closes = h.closes; all = k })
      ]

  -- the first of the first wishes
  pub first_of : (ws vs : List Wish) (n : ℕ) (t : List ℕ) → AreFirst numbers n t (ws ++ vs) → AreFirst numbers n t ws
  first_of ws vs n t (inl h) = inl (first_open ws vs n t h.0 h.1)
  first_of ws vs n t (inr h) = first_closed ws vs n t h
