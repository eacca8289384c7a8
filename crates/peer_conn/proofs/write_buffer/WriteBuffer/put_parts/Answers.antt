use Rattle.std.proofs.Common.{◌+◌, ◌∙◌, drop, ap, refl}
use Rattle.peer_reply.specs.Texts.{joined}
use Rattle.peer_conn.proofs.SendLemmas.{Moves-then, Moves-cut}
use Rattle.peer_conn.proofs.write_buffer.WriteBuffer.put_parts.Goals as goal

pub returns-in-Err : goal.returns-in-Err
returns-in-Err g c =
    let so_far = c.loop-i.invariant in
    let broke = c.in-Err.ensures in
    ((_, Moves-then _ _ _ _ _ _ _ _ c.part_at.ensures.all so_far.moved (Moves-cut _ _ _ _ (joined (drop (c.loop-i.i + 1) c.args.parts.now)) _ _ refl broke.0.1)), broke.1 ∙ ap (λ v. v + 1) so_far.fine)

pub loop-i-preserved : goal.loop-i-preserved
loop-i-preserved g c =
    let so_far = c.loop-i.invariant in
    record {
      moved = Moves-then _ _ _ _ _ _ _ _ c.part_at.ensures.behind so_far.moved c.in_default.ensures.0;
      fine = c.in_default.ensures.1 ∙ so_far.fine;
    }
