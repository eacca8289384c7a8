use Rattle.peer_view.proofs.MovingLemmas.{Sends-after, Moves-more, fails-more}
use Rattle.peer_conn.proofs.write_buffer.WriteBuffer.put.Goals as goal

pub returns-in-Err : goal.returns-in-Err
returns-in-Err g c = fails-more _ _ _ _ _ c.args.part.now c.in-Err.ensures.sends

pub returns-in-Ok : goal.returns-in-Ok
returns-in-Ok g c =
    Sends-after c.put_first.result _ _ _ _ _ _ _ c.args.part.now _ (Moves-more _ _ _ _ c.args.part.now c.in-Ok.ensures.sends.0) c.in-Ok.ensures.sends.1 c.put_first.ensures
