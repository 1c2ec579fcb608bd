-- The digits of a place.
use Rattle.std.proofs.Common.{◌≡◌, ℕ, ◌/◌, ◌%◌, refl, arith}
use Rattle.kc_base.specs.Digits.{hex}

-- the four lowest digits are those of the number modulo 65,536
pub lowest_four : (n : ℕ) → hex 4 (n % 65536) ≡ hex 4 n
lowest_four n =
    let first : n % 65536 / 16 / 16 / 16 % 16 ≡ n / 16 / 16 / 16 % 16 = omega arith in
    let second : n % 65536 / 16 / 16 % 16 ≡ n / 16 / 16 % 16 = omega arith in
    let third : n % 65536 / 16 % 16 ≡ n / 16 % 16 = omega arith in
    let fourth : n % 65536 % 16 ≡ n % 16 = omega arith in
    rw (first, second, third, fourth) refl
