-- A number below 100, digit by digit; the number of a kind is one.
use Rattle.std.proofs.Common.{◌≡◌, ℕ, ◌<◌, ◌/◌, ◌%◌, ◌+◌, Bool, true, false, cond, ltb, List, [], ◌∷◌, ◌++◌, decimal, ap, ◌∙◌, refl, arith, ltb-true, ltb-false}
use Rattle.std.proofs.lemmas.Fmt.{decimal_digit, decimal_step}
use Rattle.kc_base.specs.declared.types.Kind.{Kind}
use Rattle.kc_base.specs.declared.types.Kind.TheVariants as kind
use Rattle.kc_trace.specs.Text.{kind_number}
use Rattle.kc_kit_messages.specs.Codes.{short_number}

short_decimal : (n : ℕ) → n < 100 → decimal n ≡ short_number n
short_decimal n few = by (ltb n 10) refl
  where
    by : (b : Bool) → ltb n 10 ≡ b → decimal n ≡ cond b ((48 + n) ∷ []) ((48 + n / 10) ∷ (48 + n % 10) ∷ [])
    by true e = decimal_digit n (ltb-true n 10 e)
    by false e =
        decimal_step n (ltb-false n 10 e) (grind (arith, few)) ∙ ap (λ (ds : List ℕ). ds ++ ((48 + n % 10) ∷ [])) (decimal_digit (n / 10) (omega (arith, few)))

few_kinds : (k : Kind) → kind_number k < 100
few_kinds kind.OddWord = omega arith
few_kinds kind.LongAlign = omega arith
few_kinds kind.Opcode = omega arith
few_kinds kind.HoldingFull = omega arith
few_kinds kind.FastTimer2 = omega arith
few_kinds kind.Channel = omega arith
few_kinds kind.NoRegister = omega arith
few_kinds kind.BadWindow = omega arith
few_kinds kind.BadPts = omega arith
few_kinds kind.DivZero = omega arith
few_kinds kind.RomWrite = omega arith
few_kinds kind.OutsideMap = omega arith
few_kinds kind.ByteAccess = omega arith
few_kinds kind.IdleKey = omega arith

pub kind_digits : (k : Kind) → decimal (kind_number k) ≡ short_number (kind_number k)
kind_digits k = short_decimal (kind_number k) (few_kinds k)
