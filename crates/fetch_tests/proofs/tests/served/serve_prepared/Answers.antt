use Rattle.std.proofs.Common.{refl}
use Rattle.peer_fetch.proofs.AllowLemmas.{allows_own}
use Rattle.fetch_tests.proofs.tests.served.serve_prepared.Goals as goal

pub serve_held-requires-after_bounds : goal.serve_held-requires-after_bounds
serve_held-requires-after_bounds g c κs within =
    rw (c.plan_of-plan.ensures.first, c.plan_of-plan.ensures.each, c.as_slice.ensures.value)
    (allows_own g.H.Wires.carried c.new-source.result.origins.items 0 c.in-Ok.endpoints.items refl c.in-Ok.ensures)
