-- Endpoints at which the same is asked.
use Rattle.std.proofs.Common.{◌≡◌, ◌∙◌, ℕ, Bool, List, Option, Some, None, map, ap, sym, subst, refl, slice_get}
use Rattle.std.proofs.lemmas.Option.{none-some, same_Some, slice_get-map}
use Rattle.std.specs.Option.{option_map}
use Rattle.peer_source.specs.Answers.{Answer}
use Rattle.http1.specs.Fields.{Header}
use Rattle.peer_http.specs.Requests.{request_for}
use Rattle.peer_origin.specs.Endpoints.{asked_at, reached_at, request_at}
use Rattle.peer_origin.specs.Fetched.{IsFetchedAnswer}
use Rattle.peer_origin.specs.Targets.{target_of}
use Rattle.peer_origin.specs.declared.endpoint.Endpoint.{Endpoint}
use Rattle.peer_origin.specs.declared.origin.Origin.{Origin}

-- an answer to the request for a key at this host, with this before the key, and with these fields
IsAnswerFor : (List ℕ → List ℕ → Bool → Type 0) → List ℕ → Answer → List ℕ × (List ℕ × List Header) → Type 0
IsAnswerFor carried key a at = IsFetchedAnswer carried (request_for at.0 (target_of at.1.0 key) at.1.1) a

-- the same host, the same before a key and the same fields: an answer to the request at one is an answer to the request at the other
pub asked_alike : (carried : List ℕ → List ℕ → Bool → Type 0) (e e' : Endpoint) (key : List ℕ) (a : Answer) → asked_at e ≡ asked_at e'
    → IsFetchedAnswer carried (request_at e key) a → IsFetchedAnswer carried (request_at e' key) a
unfolding IsAnswerFor
asked_alike carried e e' key a same h = subst (IsAnswerFor carried key a) same h

-- among the endpoints of origins, each is that of the origin with its number
pub origin_there : (each : List Endpoint) (os : List Origin) (n : ℕ) (e : Endpoint) → map reached_at each ≡ map (λ o. reached_at o.endpoint) os → slice_get each n ≡ Some e
    → (o : Origin) × (slice_get os n ≡ Some o) × (asked_at e ≡ asked_at o.endpoint)
origin_there each os n e same there =
    let at : option_map (λ o. reached_at o.endpoint) (slice_get os n) ≡ Some (reached_at e) =
    sym (slice_get-map (λ o. reached_at o.endpoint) os n) ∙ ap (λ xs. slice_get xs n) (sym same) ∙ slice_get-map reached_at each n ∙ ap (option_map reached_at) there in
    by_origin (slice_get os n) refl at
  where
    by_origin : (found : Option Origin) → slice_get os n ≡ found → option_map (λ o. reached_at o.endpoint) found ≡ Some (reached_at e)
        → (o : Origin) × (slice_get os n ≡ Some o) × (asked_at e ≡ asked_at o.endpoint)
    by_origin None is at = absurd (none-some (reached_at e) at)
    by_origin (Some o) is at = (o, is, ap (λ r. r.1.1) (sym (same_Some (reached_at o.endpoint) (reached_at e) at)))
