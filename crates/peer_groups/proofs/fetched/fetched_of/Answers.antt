use Rattle.std.proofs.Common.{ap, map, ◌∙◌}
use Rattle.peer_origin.specs.Endpoints.{reached_at}
use Rattle.peer_groups.proofs.FetchedLemmas.{allows_origins}
use Rattle.peer_groups.proofs.fetched.fetched_of.Goals as goal

pub returns-clause-first : goal.returns-clause-first
returns-clause-first g c = c.group_count-first.ensures ∙ ap g.A.Source.count (c.first.ensures ∙ ap (λ s. s.first) c.first-services.ensures)

pub returns-clause-each : goal.returns-clause-each
returns-clause-each g c = c.in-Ok.ensures
    ∙ ap (λ s. map (λ o. reached_at o.endpoint) s.origins.items) (c.second.ensures ∙ ap (λ s. s.second) c.first-services.ensures)

pub returns-clause-allows : goal.returns-clause-allows
returns-clause-allows g c =
    let source = c.args.source.now in
    allows_origins g.H.Wires.carried _ _ source.first.second.origins.items (g.A.Source.answers source.first.first) (g.B.Source.answers source.second) c.in-Ok.each.items
    (returns-clause-first g c) (returns-clause-each g c)
