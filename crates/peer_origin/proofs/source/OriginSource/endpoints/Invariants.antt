use Rattle.std.specs.Prelude.{◌≡◌, map, take}
use Rattle.peer_origin.specs.Endpoints.{reached_at}
use Rattle.peer_origin.proofs.source.OriginSource.endpoints.Given as goal

abbrev pub invariant-loop-origin : goal.invariant-loop-origin
invariant-loop-origin g l = map reached_at l.endpoints.items ≡ map (λ o. reached_at o.endpoint) (take l.origin-index l.fn.self.origins.items)
