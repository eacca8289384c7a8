-- The addresses of a service: which of them is given next, and which an event changes.
use Rattle.std.specs.Prelude.{◌≡◌, ◌≢◌, ◌<◌, ◌≤◌, ◌++◌, ◌⊎◌, ℕ, All, List, [], ◌∷◌, length, slice_index_or}
use Rattle.std.specs.List.{AllWithin, HoldsAt, remove}
use Rattle.std.specs.Duration.{as_nanos}
use Rattle.std.specs.declared.time.Duration.{Duration}
use Rattle.std.specs.declared.net.socket_addr.SocketAddr.{SocketAddr}
use Rattle.peer_value.specs.Listings.{IsAfter, IsGiven, RestsAt, later_by}
use Rattle.peer_value.specs.declared.address_book.AddressBook.{AddressBook}
use Rattle.peer_value.specs.declared.listed.Event.{Event}
use Rattle.peer_value.specs.declared.listed.Listed.{Listed}

-- the address that stands at this index is given, and stands after all others from then on
pub record IsGivenAt (index until : ℕ) (address : SocketAddr) (old new : List Listed) : Type 0 where
  pub below : index < length old
  pub listed : Listed
  pub there : listed ≡ slice_index_or old index listed
  pub own : address ≡ listed.address
  pub given : Listed
  pub changed : IsGiven until listed given
  pub order : new ≡ remove old index ++ given ∷ []

-- an event befell the address at this index, which is this one, and no other
pub record IsNotedAt (index : ℕ) (event : Event) (address : SocketAddr) (most until : ℕ) (old new : List Listed) : Type 0 where
  pub below : index < length old
  pub there : HoldsAt (λ a. a.address ≡ address) old index
  pub count : length new ≡ length old
  pub own : (d : Listed) → IsAfter event most until (slice_index_or old index d) (slice_index_or new index d)
  pub others : (k : ℕ) (d : Listed) → k ≢ index → slice_index_or new k d ≡ slice_index_or old k d

-- an event befell this address, if it is there, and no other
abbrev pub IsNoted : Event → SocketAddr → ℕ → ℕ → List Listed → List Listed → Type 0
IsNoted event address most until old new = ((index : ℕ) × IsNotedAt index event address most until old new) ⊎ (All (λ a. a.address ≢ address) old × (new ≡ old))

-- the same values in a row and the same time make an address rest
pub record IsOfSameRests (old new : AddressBook) : Type 0 where
  pub most : new.most ≡ old.most
  pub rest : new.rest ≡ old.rest

-- the address is given whose turn it is: it does not rest, and those before it do
pub record IsInTurn (now : Duration) (address : SocketAddr) (old new : AddressBook) : Type 0 where
  pub index : ℕ
  pub awake : HoldsAt (λ a. ¬ (RestsAt now a)) old.each.items index
  pub before : AllWithin (RestsAt now) old.each.items 0 index
  pub given : IsGivenAt index (later_by old.rest now) address old.each.items new.each.items
  pub trial : new.trial ≡ old.trial

-- no value may try an address though all rest: there is none, or one did within the last second
abbrev pub MayNotTry : Duration → AddressBook → Type 0
MayNotTry now book = (book.each.items ≡ []) ⊎ (as_nanos now < as_nanos book.trial)

-- all rest, and the address given longest ago is given to one value: no other may try one within a second
pub record IsTrial (now : Duration) (address : SocketAddr) (old new : AddressBook) : Type 0 where
  pub all : All (RestsAt now) old.each.items
  pub may : as_nanos old.trial ≤ as_nanos now
  pub given : IsGivenAt 0 (later_by old.rest now) address old.each.items new.each.items
  pub pause : as_nanos new.trial ≡ later_by (record { secs = 1; nanos = 0 }) now
