use Rattle.std.proofs.Common.{IfSome, ap, sym, subst₂}
use Rattle.peer_source.specs.Outcomes.{answer_of}
use Rattle.peer_origin.specs.Endpoints.{request_at}
use Rattle.peer_origin.specs.Fetched.{IsFetchedAnswer}
use Rattle.peer_fetch.proofs.jobs.fill_done.Goals as goal

pub fill-requires-clause-answer : goal.fill-requires-clause-answer
fill-requires-clause-answer g c =
    let answer = answer_of c.settle-job.result.1 in
    subst₂ (λ e k. IfSome answer (IsFetchedAnswer g.H.Wires.carried (request_at e k))) (ap (λ r. r.now) (sym c.endpoint-endpoint.ensures)) (ap (λ j. j.place.key) (sym c.settle-job.ensures.job)) c.settle-job.ensures.fetched
