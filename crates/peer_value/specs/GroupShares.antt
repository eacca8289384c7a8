-- How many values of each group may be under way.
use Rattle.std.specs.Prelude.{ℕ, ◌<◌, ◌^◌, ◌-◌, List, IfSome, slice_get, unwrap_or}
use Rattle.peer_origin.specs.Endpoints.{own_of}
use Rattle.peer_origin.specs.declared.endpoint.Endpoint.{Endpoint}

-- as many as is set of its group, and as there is room for if nothing is
abbrev pub most_for : Endpoint → ℕ
most_for endpoint = unwrap_or (own_of endpoint).under_way (2 ^ 64 - 1)

-- with so many of each group under way, and so many of each that may be, fewer are than may be
abbrev pub HasOwnRoom : List ℕ → List ℕ → ℕ → Type 0
HasOwnRoom each most number = IfSome (slice_get each number) (λ own. IfSome (slice_get most number) (λ limit. own < limit))
