-- What a claim says of the ask that it is given for, and what an ask keeps of its seat.
use Rattle.std.specs.Prelude.{◌≡◌, Option, None, Some, Result, Ok, Err}
use Rattle.peer_source.specs.declared.source.Source as Source
use Rattle.std.specs.declared.sync.ledger.Ledger as Ledger
use Rattle.peer_flight.specs.Claims.{claim_place}
use Rattle.peer_flight.specs.SingleFlight.{Place}
use Rattle.peer_flight.specs.declared.claim.Claim.{Claim}
use Rattle.peer_fill.specs.Asks.{CountsAsk, IsFoundIfReady}
use Rattle.peer_fill.specs.Pools.{IsConnSeatOf}
use Rattle.peer_fill.specs.Seats.{conn_parts}
use Rattle.peer_fill.specs.declared.counts.AskCounts.{AskCounts}
use Rattle.peer_fill.specs.declared.seats.ConnSeat.{ConnSeat}
use Rattle.peer_fill.specs.declared.pool.Pool.{Pool}

-- the claim is of the place that was asked for, shows a value that was found where it is ready, and was counted
pub record GivesClaim {S : Type 0} (asked : Place) (old new : AskCounts) (claim : Claim S) : Type 0 where
  pub place : claim_place claim ≡ asked
  pub found : IsFoundIfReady claim
  pub counted : CountsAsk claim old new

-- what was found, if anything, is such a claim, and else nothing was counted
abbrev pub MayGive : {S E : Type 0} → Place → AskCounts → AskCounts → Result (Option (Claim S)) E → Type 0
MayGive asked old new (Ok (Some claim)) = GivesClaim asked old new claim
MayGive asked old new (Ok None) = new ≡ old
MayGive asked old new (Err fault) = new ≡ old

module _ {S L : Type 0} {g : Source.Ghosts S} {h : Ledger.Ghosts L} where
  -- the seat is one of the pool, and has the parts that it had
  pub record KeepsSeat (pool : Pool S L g h) (old new : ConnSeat S L g) : Type 0 where
    pub own : IsConnSeatOf pool new
    pub parts : conn_parts new ≡ conn_parts old
