use Rattle.peer_wish.proofs.LastLemmas.{named_by}
use Rattle.peer_wish.proofs.last_head.plain_name.Goals as goal

pub returns-then-below-len-eq47 : goal.returns-then-below-len-eq47
returns-then-below-len-eq47 c =
    let cases = c.in_ok-below.ensures.cases in
    named_by c.args.target.now c.in_ok-below.below.now c.name_len-len.result cases.0 cases.1 c.name_len-len.ensures.plain
    c.if-len-below.true c.if-below-len-eq47.true
