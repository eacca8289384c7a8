-- Where the endpoints are that are compared.
use Rattle.std.proofs.Common.{◌≡◌, ℕ, ◌+◌, ◌<◌, inl, inr, List, length, get_or, Some, option_map, refl, ap, sym, ◌∙◌, subst, arith}
use Rattle.std.proofs.lemmas.Bool.{cases_eq}
use Rattle.std.proofs.lemmas.Option.{slice_get_read}
use Rattle.peer_origin.specs.declared.endpoint.Endpoint.{Endpoint}
use Rattle.peer_value.specs.Shares.{host_at}

-- the host of an endpoint that is read
read_host : (each : List Endpoint) (n : ℕ) (e : Endpoint) → n < length each → e ≡ get_or each n e → host_at each n ≡ Some e.host.items
read_host each n e below is = ap (option_map (λ e. e.host.items)) (slice_get_read each (length each) n e refl below is)

-- two endpoints that are read
module _ (each : List Endpoint) (n m : ℕ) (e f : Endpoint) (n-below : n < length each) (e-is : e ≡ get_or each n e) (m-below : m < length each) (f-is : f ≡ get_or each m f) where
  pub there_from_hosts : e.host.items ≡ f.host.items → host_at each n ≡ host_at each m
  there_from_hosts same = read_host each n e n-below e-is ∙ ap Some same ∙ sym (read_host each m f m-below f-is)

  pub hosts_from_there : host_at each n ≡ host_at each m → e.host.items ≡ f.host.items
  hosts_from_there there = let is = sym (read_host each n e n-below e-is) ∙ there ∙ read_host each m f m-below f-is in cc

-- what holds of none below a number, and not of that one, holds of none below the next
pub none_more : (P : ℕ → Type 0) (n : ℕ) → ((m : ℕ) → m < n → ¬ (P m)) → ¬ (P n) → (m : ℕ) → m < n + 1 → ¬ (P m)
none_more P n none not m below p = elim (cases_eq m n) as (λ _. ⊥) [
  | inl same ↦ not (subst P same p)
  | inr differ ↦ none m (omega (arith, below, differ)) p
]
