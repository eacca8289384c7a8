use Rattle.std.proofs.Common.{◌≡◌, ◌+◌, ◌-◌, ◌*◌, ◌/◌, length, arith}
use Rattle.std.proofs.lemmas.Grind.{common_steps}
use Rattle.peer_head.proofs.PairLemmas.{judged_by_ends, judged_once, judged_twice, paired_last}
use Rattle.peer_head.proofs.parse.is_paired.Goals as goal

pub returns-then-bytes-last-eq13 : goal.returns-then-bytes-last-eq13
returns-then-bytes-last-eq13 c =
    let xs = c.args.bytes.now in
    let some : length xs ≡ length xs - 1 + 1 = grind (arith, common_steps) in
    judged_by_ends xs (λ p. paired_last xs (length xs - 1) some p c.if-bytes-last-eq13.true)

pub returns-then-last-lt-STEP : goal.returns-then-last-lt-STEP
returns-then-last-lt-STEP c =
    let xs = c.args.bytes.now in
    let some : length xs ≡ length xs - 1 + 1 = grind (arith, common_steps) in
    judged_once xs (length xs - 1) c.is_matching.result some c.if-bytes-eq10.false c.if-bytes-last-eq13.false c.is_matching.ensures

pub returns : goal.returns
returns c =
    let xs = c.args.bytes.now in
    let last = length xs - 1 in
    let some : length xs ≡ last + 1 = omega arith in
    judged_twice xs last (last / 32 * 32) (last - 32) 32 c.is_matching-2.result c.is_matching-3.result some c.if-bytes-eq10.false
    c.if-bytes-last-eq13.false (omega arith) (omega arith) c.is_matching-2.ensures c.is_matching-3.ensures
