use Rattle.std.proofs.Common.{refl}
use Rattle.peer_fetch.proofs.AllowLemmas.{allows_own}
use Rattle.fetch_tests.proofs.tests.running.see_at.Goals as goal

pub run_opened-answered-requires-clause-answers : goal.run_opened-answered-requires-clause-answers
run_opened-answered-requires-clause-answers g c κs within =
    rw (c.in-Some.ensures.source, c.new.ensures, c.plan_of-plan.ensures.first, c.plan_of-plan.ensures.each, c.as_slice-2.ensures.value)
    (allows_own g.H.Wires.carried c.new-source.result.origins.items 0 c.in-Ok.endpoints.items refl c.in-Ok.ensures)
