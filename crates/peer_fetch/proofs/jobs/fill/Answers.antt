use Rattle.std.proofs.Common.{rules, ◌∙◌, IsTrue}
use Rattle.peer_source.specs.Outcomes.{answer_of}
use Rattle.peer_fill.specs.Pools.{source_of}
use Rattle.peer_fetch.proofs.AllowLemmas.{allowed_by}
use Rattle.peer_fetch.proofs.jobs.fill.Goals as goal

pub finish-requires-clause-answer : goal.finish-requires-clause-answer
finish-requires-clause-answer g c =
    let plan = c.args.jobs.now.plan.endpoints in
    let own : IsTrue c.is_at.result = search rules in
    allowed_by g.H.Wires.carried (g.S.Source.answers (source_of c.args.jobs.now.pool.now)) plan.first plan.each.now c.in-Some.at.number c.args.job.place.group c.in-Some.at.endpoint.now c.args.endpoint.now
    c.args.job.place.key (answer_of c.args.outcome) c.requires.answers c.in-Some.ensures.endpoint (c.in-Some.ensures.number ∙ c.group.ensures) (c.is_at.ensures own) c.requires.answer
