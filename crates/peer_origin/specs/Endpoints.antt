-- What a request to an endpoint says of it.
use Rattle.std.specs.Arc.{arc_value}
use Rattle.std.specs.Prelude.{ℕ, List}
use Rattle.http1.specs.Fields.{Header}
use Rattle.peer_http.specs.Lines.{lines_of}
use Rattle.peer_http.specs.Requests.{request_for}
use Rattle.peer_origin.specs.Targets.{target_of}
use Rattle.peer_origin.specs.declared.addresses.Addresses.{Addresses}
use Rattle.peer_origin.specs.declared.endpoint.Endpoint.{Endpoint}
use Rattle.peer_origin.specs.declared.group_settings.GroupSettings.{GroupSettings}

-- what is set of its group
abbrev pub own_of : Endpoint → GroupSettings
own_of endpoint = arc_value endpoint.own

-- the fields that its group's requests have besides the usual ones: their names and their values
abbrev pub fields_of : Endpoint → List Header
fields_of endpoint = lines_of (own_of endpoint).fields.items

-- the host that is asked, what stands before the key, and the fields of the group
abbrev pub asked_at : Endpoint → List ℕ × (List ℕ × List Header)
asked_at endpoint = (endpoint.host.items, (endpoint.prefix.items, fields_of endpoint))

-- the name whose addresses are asked, none where the host is an address: what lies under a lock has no value in a clause
abbrev pub addresses_of : Endpoint → Addresses
addresses_of endpoint = arc_value endpoint.addresses

-- where an endpoint is asked, and how: at the addresses of which name, by which settings, and what is asked for
abbrev pub reached_at : Endpoint → Addresses × (GroupSettings × (List ℕ × (List ℕ × List Header)))
reached_at endpoint = (addresses_of endpoint, (own_of endpoint, asked_at endpoint))

-- the request for a key at an endpoint
abbrev pub request_at : Endpoint → List ℕ → List ℕ
request_at endpoint key = request_for endpoint.host.items (target_of endpoint.prefix.items key) (fields_of endpoint)
