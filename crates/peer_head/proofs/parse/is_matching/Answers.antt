use Rattle.peer_head.proofs.PairLemmas.{matching_more}
use Rattle.peer_head.proofs.parse.is_matching.Goals as goal

pub loop-i-preserved : goal.loop-i-preserved
loop-i-preserved c = matching_more c.args.bytes.now c.args.from c.loop-i.i c.loop-i.matching c.loop-i.invariant
