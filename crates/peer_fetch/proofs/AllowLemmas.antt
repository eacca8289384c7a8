-- What was fetched for a job is what the source may answer.
use Rattle.std.proofs.Common.{◌≡◌, ℕ, ◌+◌, Bool, List, Option, Some, None, IfSome, map, slice_get, sym, subst, arith}
use Rattle.peer_source.specs.Answers.{Answer}
use Rattle.peer_origin.specs.Endpoints.{asked_at, reached_at, request_at}
use Rattle.peer_origin.specs.Fetched.{AnswersAt, AnswersFrom, IsFetchedAnswer}
use Rattle.peer_origin.specs.declared.endpoint.Endpoint.{Endpoint}
use Rattle.peer_origin.specs.declared.origin.Origin.{Origin}
use Rattle.peer_origin.proofs.AskedLemmas.{asked_alike, origin_there}
use Rattle.peer_fetch.specs.Threads.{AllowsOrigins}

module _ (carried : List ℕ → List ℕ → Bool → Type 0) where
  -- what was fetched at the endpoint of the job's own group, by host and prefix, is an answer for this group
  pub allowed_by : (answers : ℕ → List ℕ → Answer → Type 0) (first : ℕ) (each : List Endpoint) (n group : ℕ) (at e : Endpoint) (key : List ℕ) (o : Option Answer)
      → AllowsOrigins carried answers first each → slice_get each n ≡ Some at → first + n ≡ group → asked_at at ≡ asked_at e
      → IfSome o (IsFetchedAnswer carried (request_at e key)) → IfSome o (answers group key)
  allowed_by answers first each n group at e key None allows there number same h = tt
  allowed_by answers first each n group at e key (Some a) allows there number same h =
      subst (λ g. answers g key a) number (allows n at key a there (asked_alike carried e at key a (sym same) h))

  -- with the endpoints of origins, a source may answer what is fetched at them which may answer what is fetched at these origins
  pub allows_from : (answers : ℕ → List ℕ → Answer → Type 0) (os : List Origin) (first : ℕ) (each : List Endpoint) → map reached_at each ≡ map (λ o. reached_at o.endpoint) os
      → ((n : ℕ) (o : Origin) (key : List ℕ) (a : Answer) → slice_get os n ≡ Some o → IsFetchedAnswer carried (request_at o.endpoint key) a → answers (first + n) key a)
      → AllowsOrigins carried answers first each
  allows_from answers os first each same may n e key a there h =
      let o = origin_there each os n e same there in
      may n o.0 key a o.1 (asked_alike carried e o.0.endpoint key a o.2 h)

  -- so may the source over these origins itself
  pub allows_own : (os : List Origin) (first : ℕ) (each : List Endpoint) → first ≡ 0 → map reached_at each ≡ map (λ o. reached_at o.endpoint) os
      → AllowsOrigins carried (AnswersFrom carried os) first each
  allows_own os first each zero same =
      allows_from (AnswersFrom carried os) os first each same (λ n o key a there h.
      let place : n ≡ first + n = omega (arith, zero) in
      subst (λ i. AnswersAt carried (slice_get os i) key a) place (subst (λ x. AnswersAt carried x key a) (sym there) h))
