-- What a block asks for, the wishes of a text, and when they end (RFC 9112, sections 9.3 and 9.3.2).
use Rattle.std.specs.Prelude.{◌≡◌, ℕ, ◌+◌, ◌<◌, ◌⊎◌, ◌==◌, Bool, true, false, ◌||◌, List, [], ◌∷◌, ◌++◌, length}
use Rattle.std.specs.Prelude.{codes, bytes_eq, Option, Some, None, Result, Ok, Err, if◌then◌else◌}
use Rattle.peer_head.specs.Blocks.{Begins, IsTooLong, IsUnfinished}
use Rattle.peer_head.specs.Heads.{HeadParts, IsHead, HasNoHead}
use Rattle.peer_head.specs.Faults.{head_fault, is_closing, is_bare}
use Rattle.peer_head.specs.declared.fault.HeadFault.{HeadFault}
use Rattle.peer_head.specs.declared.fault.HeadFault.TheVariants as head
use Rattle.peer_path.specs.Places.{PlaceParts, Refusal, place_of, Target, Escape, Outside, NoKey}
use Rattle.peer_flight.specs.Events.{REPLIES}
use Rattle.peer_source.specs.declared.group.GroupId.{GroupId}
use Rattle.peer_reply.specs.declared.fault.Fault.{Fault}
use Rattle.peer_reply.specs.declared.fault.Fault.TheVariants as fault
use Rattle.peer_reply.specs.declared.wish.Wish.{Wish}
use Rattle.peer_reply.specs.declared.wish.WishBody.{WishBody}
use Rattle.peer_reply.specs.declared.wish.WishBody.TheVariants as body

-- a fault of a head, as a fault of a request
abbrev pub fault_of : HeadFault → Fault
fault_of head.TooLong = fault.TooLong
fault_of head.NotAHead = fault.NotAHead
fault_of head.TransferCoding = fault.TransferCoding
fault_of head.BadLength = fault.BadLength
fault_of head.Content = fault.Content
fault_of head.Host = fault.Host

-- the wish of a fault of the head, which closes
abbrev pub fault_wish : HeadFault → Bool → Wish
fault_wish f bare = record { body = body.Fault (fault_of f); closing = true; bare = bare }

-- the wish that is refused with this fault
abbrev pub refusal : Fault → Bool → Bool → Wish
refusal fault closing bare = record { body = body.Fault fault; closing = closing; bare = bare }

-- the wish of a group and a key
abbrev pub get_wish : GroupId → List ℕ → Bool → Bool → Wish
get_wish group key closing bare = record { body = body.Get group key; closing = closing; bare = bare }

-- the key of the group of that name, where the name is one
abbrev pub in_group : Option ℕ → List ℕ → List ℕ → WishBody
in_group (Some number) name key = body.Get (record { number = number }) key
in_group None name key = body.Fault (fault.NoGroup name)

-- what a place asks for, or the refusal of one; `numbers` gives the number of the group of a name
abbrev pub placed_body : (List ℕ → Option ℕ) → Result PlaceParts Refusal → WishBody
placed_body numbers (Ok place) = in_group (numbers place.group) place.group place.key
placed_body numbers (Err Target) = body.Fault fault.Target
placed_body numbers (Err Escape) = body.Fault fault.Escape
placed_body numbers (Err Outside) = body.Fault fault.Outside
placed_body numbers (Err NoKey) = body.Fault fault.NoKey

-- what a target asks for
abbrev pub target_body : (List ℕ → Option ℕ) → List ℕ → WishBody
target_body numbers target = placed_body numbers (place_of target)

-- GET and HEAD are served (RFC 9110, sections 9.3.1 and 9.3.2)
abbrev pub is_served : List ℕ → Bool
is_served method = bytes_eq method (codes "GET") || bytes_eq method (codes "HEAD")

-- what a head asks for, by its method and target
abbrev pub head_body : (List ℕ → Option ℕ) → HeadParts → WishBody
head_body numbers p = if is_served p.method then target_body numbers p.target else body.Fault fault.Method

-- the wish of a head that has no fault of its own
abbrev pub head_wish : (List ℕ → Option ℕ) → HeadParts → Wish
head_wish numbers p = record {
  body = head_body numbers p;
  closing = is_closing p;
  bare = is_bare p;
}

-- the wish of a block: the first fault of its head, or what its head asks for
pub data IsWish (numbers : List ℕ → Option ℕ) (block : List ℕ) : Wish → Type 0 where
  no_head : HasNoHead block → IsWish numbers block (fault_wish head.NotAHead false)
  refused : (p : HeadParts) (f : HeadFault) → IsHead block p → head_fault p ≡ Some f → IsWish numbers block (fault_wish f (is_bare p))
  asked : (p : HeadParts) → IsHead block p → head_fault p ≡ None → IsWish numbers block (head_wish numbers p)

-- a text begins with a block of this wish, and then goes on with rest
pub record Asks (numbers : List ℕ → Option ℕ) (t : List ℕ) (w : Wish) (rest : List ℕ) : Type 0 where
  pub block : List ℕ
  pub begins : Begins t block rest
  pub wish : IsWish numbers block w

-- whether the reply to a wish closes, after n replies
abbrev pub closes_after : ℕ → Bool → Bool
closes_after n closing = closing || (n + 1 == REPLIES)

-- t is blocks of these wishes, none of which closes, and then u
abbrev pub AsksInTurn : (List ℕ → Option ℕ) → List ℕ → List Wish → List ℕ → Type 0
AsksInTurn numbers t [] u = t ≡ u
AsksInTurn numbers t (w ∷ ws) u = (v : List ℕ) × Asks numbers t w v × (w.closing ≡ false) × AsksInTurn numbers v ws u

-- the wish that closes at a text, after n wishes: a head that is too long, a wish that closes, or the last that a connection has
pub data IsLastWish (numbers : List ℕ → Option ℕ) (n : ℕ) (t : List ℕ) : Wish → Type 0 where
  too_long : IsTooLong t → IsLastWish numbers n t (fault_wish head.TooLong false)
  closes : (w : Wish) (rest : List ℕ) → Asks numbers t w rest → closes_after n w.closing ≡ true →
      IsLastWish numbers n t (record w { closing = true })

-- the first wishes of a text, after n others: none of them closes, and u is left ..
pub record OpenWishes (numbers : List ℕ → Option ℕ) (n : ℕ) (t : List ℕ) (ws : List Wish) (u : List ℕ) : Type 0 where
  pub asks : AsksInTurn numbers t ws u
  pub count : n + length ws < REPLIES

-- .. or the last of them closes
pub record ClosedWishes (numbers : List ℕ → Option ℕ) (n : ℕ) (t : List ℕ) (ws : List Wish) : Type 0 where
  pub front : List Wish
  pub last : Wish
  pub at : List ℕ
  pub opens : OpenWishes numbers n t front at
  pub closes : IsLastWish numbers (n + length front) at last
  pub all : ws ≡ front ++ last ∷ []

-- the first wishes of a text, in either way
abbrev pub AreFirst : (List ℕ → Option ℕ) → ℕ → List ℕ → List Wish → Type 0
AreFirst numbers n t ws = ((u : List ℕ) × OpenWishes numbers n t ws u) ⊎ ClosedWishes numbers n t ws

-- all wishes of a text whose last one does not close, and the rest behind them
pub record AreAll (numbers : List ℕ → Option ℕ) (n : ℕ) (t : List ℕ) (ws : List Wish) (rest : List ℕ) : Type 0 where
  pub opens : OpenWishes numbers n t ws rest
  pub unfinished : IsUnfinished rest

-- all wishes of a text, after n others: the last one closes, or none does and what is left is unfinished
abbrev pub IsWhole : (List ℕ → Option ℕ) → ℕ → List ℕ → List Wish → Type 0
IsWhole numbers n t ws = ClosedWishes numbers n t ws ⊎ ((rest : List ℕ) × AreAll numbers n t ws rest)
