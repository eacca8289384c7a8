use Rattle.peer_head.proofs.BlockLaws.{leaves_less_law}
use Rattle.head_rate.proofs.count.take_heads.Goals as goal

pub loop-held-smaller : goal.loop-held-smaller
loop-held-smaller c =
    let left = c.drop_front.ensures.rest in
    leaves_less_law _ left.0 _ left.1
