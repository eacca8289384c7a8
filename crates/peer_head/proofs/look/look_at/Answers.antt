use Rattle.peer_head.specs.Looks.{too_long}
use Rattle.peer_head.proofs.BlockLaws.{begins_once_law}
use Rattle.peer_head.proofs.look.look_at.Goals as goal

pub returns-in-Unfinished-clause-front : goal.returns-in-Unfinished-clause-front
returns-in-Unfinished-clause-front c = λ block rest begins. absurd (c.in-Unfinished.ensures.none block rest begins)

pub returns-in-TooLong-clause-look : goal.returns-in-TooLong-clause-look
returns-in-TooLong-clause-look c = too_long c.in-TooLong.ensures

pub returns-in-TooLong-clause-front : goal.returns-in-TooLong-clause-front
returns-in-TooLong-clause-front c = λ block rest begins. absurd (c.in-TooLong.ensures.none block rest begins)

pub returns-in-Block-clause-front : goal.returns-in-Block-clause-front
returns-in-Block-clause-front c = λ block rest begins.
    (c.in-Block.ensures.within, (begins_once_law _ _ _ _ _ begins c.in-Block.ensures.begins).1)
