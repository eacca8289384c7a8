-- How many values may be under way of the services of a thread.
use Rattle.std.specs.Prelude.{◌≡◌, ◌≢◌, ◌<◌, ◌≤◌, ◌+◌, ℕ, All, Bool, false, List, length, Option, option_map, IfSome, IsSomeAnd, slice_get}
use Rattle.peer_origin.specs.declared.endpoint.Endpoint.{Endpoint}
use Rattle.peer_value.specs.declared.shares.Shares.{Shares}

-- the host of the endpoint with this number
abbrev pub host_at : List Endpoint → ℕ → Option (List ℕ)
host_at each n = option_map (λ e. e.host.items) (slice_get each n)

-- the first endpoint at the host of this one
pub record IsFirstThere (each : List Endpoint) (n service : ℕ) : Type 0 where
  pub there : host_at each service ≡ host_at each n
  pub first : (m : ℕ) → m < service → host_at each m ≢ host_at each n

-- a service is a host: that of each endpoint is the number of the first endpoint there
pub record AreServices (endpoints : List Endpoint) (services : List ℕ) : Type 0 where
  pub count : length services ≡ length endpoints
  pub each : (n : ℕ) → n < length endpoints → IsSomeAnd (slice_get services n) (IsFirstThere endpoints n)

-- with so many groups of a source, so many endpoints and the service of each: there are as many endpoints as groups, and all are of
-- one service
abbrev pub IsAlone : ℕ → ℕ → List ℕ → Type 0
IsAlone groups endpoints services = (groups ≤ endpoints) × All (λ service. service ≡ 0) services

-- with so many values of each service under way, so many in all and so many at most: fewer are under way in all than may be, and,
-- where a service is not alone, fewer of this one than are free
abbrev pub HasRoom : Bool → List ℕ → ℕ → ℕ → ℕ → Type 0
HasRoom alone each total most service =
    (total < most) × (alone ≡ false → IfSome (slice_get each service) (λ own. own + total < most))

-- the services are the same, and as many values may be under way
pub record IsOfSame (s s' : Shares) : Type 0 where
  pub services : s'.services ≡ s.services
  pub alone : s'.alone ≡ s.alone
  pub most : s'.most ≡ s.most
