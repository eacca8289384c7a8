use Rattle.std.proofs.Common.{◌∙◌}
use Rattle.peer_clients.proofs.client.Client.turn.Goals as goal

pub loop-preserved : goal.loop-preserved
loop-preserved g c =
    let before = c.loop.invariant in
    let now = c.round.ensures in
    (now.pool ∙ before.0, (now.parts.0 ∙ before.1.0, now.parts.1 ∙ before.1.1))
