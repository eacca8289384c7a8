use Rattle.peer_source.specs.Outcomes.{answer_of}
use Rattle.peer_origin.specs.Endpoints.{request_at}
use Rattle.peer_value.proofs.DoneLemmas.{settled}
use Rattle.peer_value.proofs.done.Done.settle.Goals as goal

pub returns-clause-fetched : goal.returns-clause-fetched
returns-clause-fetched g c =
    let d = c.args.self in
    settled g.H.Wires.carried (request_at d.endpoint.now d.job.place.key) d.got d.by (answer_of c.outcome_of.result) d.asked d.found d.told c.requires.0 c.requires.1
    c.outcome_of.ensures.found c.outcome_of.ensures.failed
