-- What a thread that fetches keeps of its seat, and which sources it fetches for.
use Rattle.std.specs.Prelude.{◌≡◌, ℕ, ◌≤◌, ◌+◌, Bool, List, Some, slice_get}
use Rattle.peer_source.specs.Answers.{Answer}
use Rattle.peer_source.specs.declared.source.Source as Source
use Rattle.std.specs.declared.sync.ledger.Ledger as Ledger
use Rattle.peer_fill.specs.Pools.{IsFillSeatOf}
use Rattle.peer_fill.specs.Seats.{fills_of, fill_parts}
use Rattle.peer_fill.specs.declared.pool.Pool.{Pool}
use Rattle.peer_fill.specs.declared.seats.FillSeat.{FillSeat}
use Rattle.peer_origin.specs.Endpoints.{request_at}
use Rattle.peer_origin.specs.Fetched.{IsFetchedAnswer}
use Rattle.peer_origin.specs.declared.endpoint.Endpoint.{Endpoint}
use Rattle.peer_fetch.specs.declared.settings.FetchPlan.{FetchPlan}

-- for a key of the group of each endpoint, the first one's and those that follow it, the source may answer what a fetch by the request
-- for this key at this endpoint may, on a connection of a network
abbrev pub AllowsOrigins : (List ℕ → List ℕ → Bool → Type 0) → (ℕ → List ℕ → Answer → Type 0) → ℕ → List Endpoint → Type 0
AllowsOrigins carried answers first each = (n : ℕ) (e : Endpoint) (key : List ℕ) (a : Answer) → slice_get each n ≡ Some e
    → IsFetchedAnswer carried (request_at e key) a → answers (first + n) key a

-- the same for the endpoints of a plan
abbrev pub Allows : (List ℕ → List ℕ → Bool → Type 0) → (ℕ → List ℕ → Answer → Type 0) → FetchPlan → Type 0
Allows carried answers plan = AllowsOrigins carried answers plan.endpoints.first plan.endpoints.each.now

module _ {S L : Type 0} {g : Source.Ghosts S} {h : Ledger.Ghosts L} where
  -- it is the same seat of the pool, with its parts, and it counted on
  pub record IsLaterSeat (pool : Pool S L g h) (old new : FillSeat S L g h) : Type 0 where
    pub seat : IsFillSeatOf pool new
    pub parts : fill_parts new ≡ fill_parts old
    pub calls : (fills_of old).calls ≤ (fills_of new).calls
    pub rehits : (fills_of old).rehits ≤ (fills_of new).rehits
