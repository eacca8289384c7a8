-- Which groups have an endpoint, and of which group one was found.
use Rattle.std.specs.Prelude.{◌≡◌, ℕ, ◌+◌, ◌≤◌, ◌<◌, List, length}
use Rattle.peer_origin.specs.declared.endpoint.Endpoint.{Endpoint}
use Rattle.peer_value.specs.declared.endpoints.Numbered.{Numbered}

-- the group is one of those that follow the first, with an endpoint for each
abbrev pub HasEndpoint : ℕ → List Endpoint → ℕ → Type 0
HasEndpoint first each group = (first ≤ group) × (group < first + length each)

-- it was found for the group with this number
abbrev pub IsOfGroup : Numbered → ℕ → Type 0
IsOfGroup at group = at.group.number ≡ group
