use Rattle.std.proofs.Common.{◌≤◌, ◌*◌, arith}
use Rattle.std.proofs.Math.Nat.{mul-le-mul}
use Rattle.peer_source.proofs.demo.square.Goals as goal

pub overflow_mul-number : goal.overflow_mul-number
overflow_mul-number c =
    let n = c.in-Some.number in
    let small : n ≤ 1000000000 = omega (arith, c.in-Some.ensures.small) in
    let product : n * n ≤ 1000000000 * 1000000000 = mul-le-mul {n₁ = n} {m₁ = n} {n₂ = 1000000000} {m₂ = 1000000000} small small in
    omega arith
