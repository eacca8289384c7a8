-- What the page tells of services.
use Rattle.std.specs.Prelude.{ℕ, List, [], ◌∷◌, ◌++◌, codes, flat_map}
use Rattle.peer_stats.specs.Families.{family_text, number_text}
use Rattle.peer_stats.specs.Labels.{label_text}
use Rattle.peer_stats.specs.declared.service_counts.ServiceCounts.{ServiceCounts}
use Rattle.peer_stats.specs.declared.services.ServiceNumber.{ServiceNumber}
use Rattle.peer_stats.specs.declared.services.ServiceNumber.TheVariants as the

-- each number of a service
abbrev pub service_number : ServiceNumber → ServiceCounts → ℕ
service_number the.Busy s = s.held.busy
service_number the.Kept s = s.held.kept
service_number the.Waiting s = s.held.waiting
service_number the.Used s = s.held.used
service_number the.Resting s = s.held.resting
service_number the.Made s = s.connects.made
service_number the.Refused s = s.connects.refused
service_number the.Late s = s.connects.late
service_number the.Failed s = s.connects.failed
service_number the.Ok s = s.replies.ok
service_number the.NoSuchKey s = s.replies.no_such_key
service_number the.Informational s = s.replies.informational
service_number the.Successful s = s.replies.successful
service_number the.Redirection s = s.replies.redirection
service_number the.ClientError s = s.replies.client_error
service_number the.ServerError s = s.replies.server_error
service_number the.SecondRequests s = s.second_requests
service_number the.LookupsOk s = s.lookups_ok
service_number the.LookupsFailed s = s.lookups_failed

-- a number of a service, with its name and the labels that follow the service's
abbrev pub service_text : List ℕ → List ℕ → ServiceNumber → ServiceCounts → List ℕ
service_text name labels number s =
    name ++ codes "{service=\"" ++ label_text s.name.now ++ codes "\"" ++ labels ++ codes "} " ++ number_text (service_number number s)

-- that number of each service, in their order
abbrev pub each_service_text : List ℕ → List ℕ → ServiceNumber → List ServiceCounts → List ℕ
each_service_text name labels number services = flat_map (service_text name labels number) services

-- such numbers, each with its labels
abbrev pub service_rows_text : List ℕ → List (List ℕ × ServiceNumber) → List ServiceCounts → List ℕ
service_rows_text name rows services = flat_map (λ row. each_service_text name row.0 row.1 services) rows

-- their connections
abbrev pub held_connections_text : List ServiceCounts → List ℕ
held_connections_text services =
    family_text (codes "peer_front_origin_connections") (codes "gauge")
    (codes "Connections to the service: busy, with a value under way; kept, for another one.")
    ++ service_rows_text (codes "peer_front_origin_connections")
    ((codes ",state=\"busy\"", the.Busy) ∷
    (codes ",state=\"kept\"", the.Kept) ∷ []) services

-- their keys that wait
abbrev pub held_keys_text : List ServiceCounts → List ℕ
held_keys_text services =
    family_text (codes "peer_front_origin_waiting") (codes "gauge")
    (codes "Keys that wait in fetchers until the service may be asked for them.")
    ++ each_service_text (codes "peer_front_origin_waiting") (codes "") the.Waiting services

-- their addresses
abbrev pub held_addresses_text : List ServiceCounts → List ℕ
held_addresses_text services =
    family_text (codes "peer_front_origin_addresses") (codes "gauge")
    (codes "Addresses of the service, as each fetcher that has asked it knows them: used, or resting since values or connections failed.")
    ++ service_rows_text (codes "peer_front_origin_addresses")
    ((codes ",state=\"used\"", the.Used) ∷
    (codes ",state=\"resting\"", the.Resting) ∷ []) services

-- their attempts to connect, by how they ended
abbrev pub connects_text : List ServiceCounts → List ℕ
connects_text services =
    family_text (codes "peer_front_origin_connects_total") (codes "counter")
    (codes "Connections to the service that were begun, by how that ended: ok, refused, timeout, other.")
    ++ service_rows_text (codes "peer_front_origin_connects_total")
    ((codes ",result=\"ok\"", the.Made) ∷
    (codes ",result=\"refused\"", the.Refused) ∷
    (codes ",result=\"timeout\"", the.Late) ∷
    (codes ",result=\"other\"", the.Failed) ∷ []) services

-- their replies, by their statuses
abbrev pub statuses_text : List ServiceCounts → List ℕ
statuses_text services =
    family_text (codes "peer_front_origin_replies_total") (codes "counter")
    (codes "Replies of the service by their status: 200, 404, and the others by classes.")
    ++ service_rows_text (codes "peer_front_origin_replies_total")
    ((codes ",code=\"200\"", the.Ok) ∷
    (codes ",code=\"404\"", the.NoSuchKey) ∷
    (codes ",code=\"1xx\"", the.Informational) ∷
    (codes ",code=\"2xx\"", the.Successful) ∷
    (codes ",code=\"3xx\"", the.Redirection) ∷
    (codes ",code=\"4xx\"", the.ClientError) ∷
    (codes ",code=\"5xx\"", the.ServerError) ∷ []) services

-- their requests that were made once more
abbrev pub second_requests_text : List ServiceCounts → List ℕ
second_requests_text services =
    family_text (codes "peer_front_origin_second_requests_total") (codes "counter")
    (codes "Requests that were made once more, since a kept connection had ended.")
    ++ each_service_text (codes "peer_front_origin_second_requests_total") (codes "") the.SecondRequests services

-- their look-ups of their names
abbrev pub lookups_text : List ServiceCounts → List ℕ
lookups_text services =
    family_text (codes "peer_front_lookups_total") (codes "counter")
    (codes "Look-ups of the name of the service while it serves, by how they ended: ok, failed.")
    ++ service_rows_text (codes "peer_front_lookups_total")
    ((codes ",result=\"ok\"", the.LookupsOk) ∷
    (codes ",result=\"failed\"", the.LookupsFailed) ∷ []) services

-- all of it
abbrev pub services_text : List ServiceCounts → List ℕ
services_text services =
    held_connections_text services ++ held_keys_text services ++ held_addresses_text services ++ connects_text services
    ++ statuses_text services ++ second_requests_text services ++ lookups_text services
