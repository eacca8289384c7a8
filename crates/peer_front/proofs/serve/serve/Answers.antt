use Rattle.std.proofs.Common.{IfSome, sym, subst}
use Rattle.peer_fetch.specs.Threads.{Allows}
use Rattle.peer_fetch.specs.declared.settings.FetchPlan.{FetchPlan}
use Rattle.peer_front.proofs.serve.serve.Goals.{then-has_services, else-has_services}
use Rattle.peer_front.proofs.serve.serve.Goals as goal

pub serve_source-requires-after_bounds : goal.serve_source-requires-after_bounds
serve_source-requires-after_bounds g c κs within =
    elim c.if-has_services.branch [
      | then-has_services w ↦ rw (w.plan-is) (rw (w.plan.ensures.first, w.plan.ensures.each) c.in-Some-Ok.ensures.allows)
      | else-has_services w ↦ rw (w.plan-is) tt
    ]
