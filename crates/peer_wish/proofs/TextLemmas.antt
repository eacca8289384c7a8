-- Every text has its list of wishes.
use Rattle.std.proofs.Common.{ℕ, zero, suc, ◌+◌, ◌<◌, true, List, [], ◌∷◌, length, ◌⊎◌, inl, inr, refl, arith, Option}
use Rattle.std.proofs.lemmas.Bool.{cases_Bool}
use Rattle.peer_head.specs.Blocks.{IsUnfinished}
use Rattle.peer_head.specs.Looks.{LooksAs}
use Rattle.peer_head.specs.declared.look.Look.{Look}
use Rattle.peer_head.specs.declared.look.Look.TheVariants.{Need, Head, Fault}
use Rattle.peer_head.proofs.BlockLaws.{leaves_less_law}
use Rattle.peer_head.proofs.LookSearch.{looks_some_way_law}
use Rattle.peer_flight.specs.Events.{REPLIES}
use Rattle.peer_reply.specs.declared.wish.Wish.{Wish}
use Rattle.peer_wish.specs.Wishes.{fault_wish, head_wish, closes_after, IsWhole}
use Rattle.peer_wish.specs.Nexts.{IsNextWish, AsksOpen}
use Rattle.peer_wish.proofs.WishLemmas.{fault_next, head_next, next_closes, next_stays, next_block}
use Rattle.peer_wish.proofs.WishLemmas.{Open-none, Open-one, Open-append, Closed-one, Closed-append}

module _ (numbers : List ℕ → Option ℕ) where
  -- a wish that stays open, before a whole list
  before_whole : (n : ℕ) (t u : List ℕ) (w : Wish) (ws : List Wish) → AsksOpen numbers n t w u → IsWhole numbers (n + 1) u ws → IsWhole numbers n t (w ∷ ws)
  before_whole n t u w ws h (inl k) = inl (Closed-append numbers n (n + 1) t u (w ∷ []) ws (Open-one numbers n t u w h) refl k)
  before_whole n t u w ws h (inr k) =
      inr (k.0, record { opens = Open-append numbers n (n + 1) t u k.0 (w ∷ []) ws (Open-one numbers n t u w h) refl k.1.opens; unfinished = k.1.unfinished })

  -- a text is unfinished or has a next wish
  next_of : (t : List ℕ) → IsUnfinished t ⊎ ((w : Wish) × IsNextWish numbers t w)
  next_of t = by_look (looks_some_way_law t).0 (looks_some_way_law t).1
    where
      by_look : (a : Look) → LooksAs t a → IsUnfinished t ⊎ ((w : Wish) × IsNextWish numbers t w)
      by_look Need h = inl h
      by_look (Head p) h = inr (head_wish numbers p, head_next numbers t p h)
      by_look (Fault f bare) h = inr (fault_wish f bare, fault_next numbers t f bare h)

  -- a text of fewer bytes than `fuel` has its list
  whole_below : (fuel n : ℕ) (t : List ℕ) → n < REPLIES → length t < fuel → (ws : List Wish) × IsWhole numbers n t ws
  whole_below zero n t lt short = absurd (omega (arith, short))
  whole_below (suc fuel) n t lt short =
      elim (next_of t) as (λ _. (ws : List Wish) × IsWhole numbers n t ws) [
        | inl h ↦ ([], inr (t, record { opens = Open-none numbers n t lt; unfinished = h }))
        | inr k ↦ elim (cases_Bool (closes_after n k.0.closing)) as (λ _. (ws : List Wish) × IsWhole numbers n t ws) [
          | inl e ↦ (record k.0 { closing = true } ∷ [], inl (Closed-one numbers n t (record k.0 { closing = true }) lt (next_closes numbers n t k.0 k.1 e)))
          | inr e ↦
              let b = next_block numbers n t k.0 k.1 e in
              let asks = next_stays numbers n t k.0 b.1.0 k.1 e lt (b.0, b.1.1) in
              let shorter : length b.1.0 < fuel = omega (arith, leaves_less_law t b.0 b.1.0 b.1.1, short) in
              let more = whole_below fuel (n + 1) b.1.0 asks.count shorter in
              (k.0 ∷ more.0, before_whole n t b.1.0 k.0 more.0 asks more.1)
        ]
      ]

  -- a text has its list of wishes
  pub whole : (n : ℕ) (t : List ℕ) → n < REPLIES → (ws : List Wish) × IsWhole numbers n t ws
  whole n t lt = whole_below (suc (length t)) n t lt (omega arith)
