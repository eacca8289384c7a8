-- How many bytes came for tickets.
use Rattle.std.specs.Prelude.{◌≡◌, ℕ, ◌+◌, ◌⊎◌, true, List, [], ◌∷◌, length, min, ◌^◌, ◌-◌, Option, Some, None}
use Rattle.peer_source.specs.Answers.{Answer, Filled, Found, Failed}
use Rattle.peer_flight.specs.Claims.{Looked}
use Rattle.peer_flight.specs.declared.claim.Claim.{Claim}
use Rattle.peer_wish.specs.declared.ticket.Body.{Body}
use Rattle.peer_wish.specs.declared.ticket.Body.TheVariants as ticket
use Rattle.peer_wish.specs.declared.ticket.Ticket.{Ticket}
use Rattle.peer_exchange.specs.Answering.{is_pending}

-- the bytes of a value or a text, none where there is no answer
abbrev pub bytes_in : Option Answer → ℕ
bytes_in None = 0
bytes_in (Some (Found value)) = length value
bytes_in (Some (Failed text)) = length text

module _ {S : Type 0} where
  -- the fill of the claim came, of so many bytes
  pub record HasCome (c : Claim S) (n : ℕ) : Type 0 where
    pub fill : Filled
    pub came : Looked c None (Some fill) (Some fill)
    pub bytes : n ≡ bytes_in fill.answer

  -- so many bytes came for a ticket's body; none for a fault, or where its fill is not there
  abbrev pub CameFor : Body S → ℕ → Type 0
  CameFor (ticket.Fault f) n = n ≡ 0
  CameFor (ticket.Claim c) n = HasCome c n ⊎ (is_pending c ≡ true) × (n ≡ 0)

  -- so many came for all of these
  abbrev pub CameForAll : List (Ticket S) → ℕ → Type 0
  CameForAll [] n = n ≡ 0
  CameForAll (t ∷ ts) n = (k : ℕ) × (m : ℕ) × CameFor t.body k × CameForAll ts m × (n ≡ k + m)

  -- so many bytes, or the most that a number holds, are these and those that came for the tickets
  pub record Holds (unsent : List ℕ) (tickets : List (Ticket S)) (n : ℕ) : Type 0 where
    pub came : ℕ
    pub all : CameForAll tickets came
    pub bytes : n ≡ min (length unsent + came) (2 ^ 64 - 1)
