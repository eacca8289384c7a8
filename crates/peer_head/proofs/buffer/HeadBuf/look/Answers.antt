use Rattle.std.proofs.Common.{rules, subst}
use Rattle.peer_head.specs.Blocks.{IsFrontLength}
use Rattle.peer_head.proofs.buffer.HeadBuf.look.Goals as goal

pub returns-clause-front : goal.returns-clause-front
returns-clause-front c = subst (λ v. IsFrontLength v c.look_at.result.1) c.rest.ensures.bytes c.look_at.ensures.front

pub look_at-requires : goal.look_at-requires
look_at-requires c = search rules
