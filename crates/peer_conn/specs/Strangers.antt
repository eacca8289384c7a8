-- How many strangers a connection counts.
use Rattle.std.specs.Prelude.{◌≡◌, ◌≤◌, ◌⊎◌, ℕ, ◌+◌, ◌-◌, ◌^◌, min, false, List}
use Rattle.peer_source.specs.Answers.{Filled}
use Rattle.peer_fill.specs.declared.counts.AskCounts.{AskCounts}
use Rattle.peer_flight.specs.declared.claim.Claim.{Claim}
use Rattle.peer_wish.specs.declared.ticket.Ticket.{Ticket}
use Rattle.peer_wish.specs.Strangers.{IsOwn, flights_in}
use Rattle.peer_conn.specs.WriterStates.{is_active}
use Rattle.peer_conn.specs.declared.end.WriterState.{WriterState}

module _ {S : Type 0} where
  -- this fill came for the claim: a writer counts one stranger more exactly where it is of another place, unless memory was
  -- refused for a fill in its place and the writer puts no more
  abbrev pub CountsFill : Claim S → Filled → WriterState → ℕ → ℕ → Type 0
  CountsFill c fill state old new = IsOwn c fill × (new ≡ old)
      ⊎ (¬ (IsOwn c fill)) × (new ≡ min (old + 1) (2 ^ 64 - 1))
      ⊎ (¬ (IsOwn c fill)) × (new ≡ old) × (is_active state ≡ false)

  -- a count did not fall, and rose at most by the flights among the tickets that came behind the first ones
  pub record CountsAmong (before after : List (Ticket S)) (old new : ℕ) : Type 0 where
    pub least : old ≤ new
    pub most : new + flights_in before ≤ old + flights_in after

-- a count did not fall, and rose by n at most
pub record Rises (n old new : ℕ) : Type 0 where
  pub least : old ≤ new
  pub most : new ≤ old + n

-- the flights that were led or joined
abbrev pub flights_of : AskCounts → ℕ
flights_of asks = asks.led + asks.joined

-- the strangers did not fall, and rose at most by the flights that were led or joined
pub record CountsFew (old new : AskCounts) : Type 0 where
  pub least : old.strangers ≤ new.strangers
  pub most : new.strangers + flights_of old ≤ old.strangers + flights_of new
