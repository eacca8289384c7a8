-- A source answers what is fetched at its origins, for their groups.
use Rattle.std.proofs.Common.{◌≡◌, ℕ, Bool, ◌+◌, ◌-◌, ◌<◌, ◌≤◌, List, map, sym, subst, slice_get, arith}
use Rattle.std.proofs.lemmas.Option.{slice_get_within}
use Rattle.peer_source.specs.Answers.{Answer}
use Rattle.peer_origin.specs.Endpoints.{reached_at}
use Rattle.peer_origin.specs.Fetched.{AnswersAt}
use Rattle.peer_origin.specs.declared.endpoint.Endpoint.{Endpoint}
use Rattle.peer_origin.specs.declared.origin.Origin.{Origin}
use Rattle.peer_fetch.specs.Threads.{AllowsOrigins}
use Rattle.peer_fetch.proofs.AllowLemmas.{allows_from}
use Rattle.peer_groups.specs.Besides.{AnswersOrigins}

pub allows_origins : (carried : List ℕ → List ℕ → Bool → Type 0) (count from : ℕ) (os : List Origin) (first second : ℕ → List ℕ → Answer → Type 0) (each : List Endpoint) → from ≡ count
    → map reached_at each ≡ map (λ o. reached_at o.endpoint) os → AllowsOrigins carried (AnswersOrigins carried count os first second) from each
allows_origins carried count from os first second each e same =
    allows_from carried (AnswersOrigins carried count os first second) os from each same (λ n o key a there h.
    let low = slice_get_within os n o there in
    let place : (from + n) - count ≡ n = omega (arith, e) in (
      λ l. (λ b. absurd (omega (arith, b, e)), λ b. subst (λ i. AnswersAt carried (slice_get os i) key a) (sym place) (subst (λ x. AnswersAt carried x key a) (sym there) h)),
      λ b. absurd (omega (arith, b, low, e)),
    ))
