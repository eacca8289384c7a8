use Rattle.std.proofs.Common.{◌≤◌, ◌^◌, arith, lit<}
use Rattle.std.proofs.Math.Nat.{pow-le-pow_right}
use Rattle.peer_flags.proofs.time.digits_of.Goals as goal

-- at most 8 digits
pub returns-clause-small : goal.returns-clause-small
returns-clause-small c =
    let read = c.loop-digit.digit-index in
    let short : read ≤ 8 = omega arith in
    let most : 10 ^ read ≤ 10 ^ 8 = pow-le-pow_right (lit< tt) short in
    omega arith
