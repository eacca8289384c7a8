use Rattle.std.proofs.Common.{arith, refl}
use Rattle.std.proofs.lemmas.List.Elements.{All-more}
use Rattle.peer_path.specs.Plains.{IsPlainInName}
use Rattle.peer_wish.proofs.last_head.name_len.Goals as goal

pub loop-len-preserved : goal.loop-len-preserved
loop-len-preserved c = (
  omega arith,
  All-more IsPlainInName c.args.bytes.now c.loop-len.len 0 c.loop-len-test.true c.loop-len.invariant.1 (c.if-is_name_byte.ensures.0 refl),
)
