-- A wish asks for a group of the source, since each number that the source gives is that of one.
use Rattle.std.proofs.Common.{◌≡◌, ℕ, ◌<◌, Bool, true, false, List, Option, Some, None, Result, Ok, Err, refl, if◌then◌else◌}
use Rattle.peer_path.specs.Places.{PlaceParts, Refusal, place_of, Target, Escape, Outside, NoKey}
use Rattle.peer_reply.specs.declared.fault.Fault.TheVariants as fault
use Rattle.peer_reply.specs.declared.wish.Wish.{Wish}
use Rattle.peer_reply.specs.declared.wish.WishBody.TheVariants as body
use Rattle.peer_wish.specs.Wishes.{IsWish, no_head, refused, asked, in_group, placed_body, is_served, target_body}
use Rattle.peer_wish.specs.Nexts.{IsNextWish, too_long, first}
use Rattle.peer_wish.specs.Known.{IsKnown}

module _ (numbers : List ℕ → Option ℕ) (count : ℕ) (numbered : (name : List ℕ) (i : ℕ) → numbers name ≡ Some i → i < count) where
  of_name : (name key : List ℕ) (number : Option ℕ) → numbers name ≡ number → IsKnown count (in_group number name key)
  of_name name key (Some i) e = numbered name i e
  of_name name key None e = tt

  of_place : (r : Result PlaceParts Refusal) → IsKnown count (placed_body numbers r)
  of_place (Ok place) = of_name place.group place.key (numbers place.group) refl
  of_place (Err Target) = tt
  of_place (Err Escape) = tt
  of_place (Err Outside) = tt
  of_place (Err NoKey) = tt

  of_method : (served : Bool) (target : List ℕ) → IsKnown count (if served then target_body numbers target else body.Fault fault.Method)
  of_method true target = of_place (place_of target)
  of_method false target = tt

  of_wish : (block : List ℕ) (w : Wish) → IsWish numbers block w → IsKnown count w.body
  of_wish block w (no_head none) = tt
  of_wish block w (refused p f head e) = tt
  of_wish block w (asked p head e) = of_method (is_served p.method) p.target

  -- the next wish does
  pub next_known : (t : List ℕ) (w : Wish) → IsNextWish numbers t w → IsKnown count w.body
  next_known t w (too_long h) = tt
  next_known t w (first v rest asks) = of_wish asks.block v asks.wish
