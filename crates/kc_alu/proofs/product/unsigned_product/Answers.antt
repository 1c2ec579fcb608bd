use Rattle.std.proofs.Common.{◌+◌, ◌*◌, ◌≤◌, arith}
use Rattle.std.proofs.Math.Nat.{mul-le-mul_left}
use Rattle.kc_alu.proofs.product.unsigned_product.Goals as goal

pub returns-clause-bound : goal.returns-clause-bound
returns-clause-bound c =
    let first : c.args.a ≤ 2 * c.args.half = omega arith in
    let second : c.args.b + 1 ≤ 2 * c.args.half = omega arith in
    omega (arith, mul-le-mul_left c.args.b first, mul-le-mul_left (2 * c.args.half) second)
