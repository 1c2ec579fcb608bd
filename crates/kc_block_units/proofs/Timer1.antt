-- Bit 5 of IOS1 over states in which nothing else sets it.
use Rattle.std.proofs.Common.{◌≡◌, ℕ, zero, suc, ◌+◌, ◌/◌, ◌≤◌, Bool, true, false, ◌||◌, refl, sym, ◌∙◌, ap, arith}
use Rattle.std.specs.Prelude.{nat_lt}
use Rattle.std.proofs.lemmas.Bool.{le-ltb}
use Rattle.std.proofs.lemmas.Bool.Decides.{nat_tests}
use Rattle.kc_span.specs.Span.{after}
use Rattle.kc_span.proofs.SpanLaws.{after-zero, after-suc}
use Rattle.kc_block_spec.specs.Tick.{passes}
use Rattle.kc_block_spec.specs.Laws.{flag_rule}

-- one state more
turns_next : (from t : ℕ) → from ≤ t → (nat_lt (from / 524288) (t / 524288) || passes t) ≡ nat_lt (from / 524288) ((t + 1) / 524288)
turns_next from t le = grind (arith, nat_tests)

or_assoc : (a b c : Bool) → ((a || b) || c) ≡ (a || (b || c))
or_assoc true b c = refl
or_assoc false b c = refl

or_false : (a : Bool) → (a || false) ≡ a
or_false true = refl
or_false false = refl

pub flag_after : (raises : Bool) (from n : ℕ) (flag : Bool) → after (flag_rule raises) from n flag ≡ (flag || nat_lt (from / 524288) ((from + n) / 524288))
flag_after raises from zero flag =
    after-zero (flag_rule raises) from flag ∙ sym (ap (λ b. flag || b) (le-ltb (from / 524288) ((from + 0) / 524288) (omega arith)) ∙ or_false flag)
flag_after raises from (suc n) flag =
    let one : from + suc n ≡ from + n + 1 = omega arith in
    after-suc (flag_rule raises) from n flag
    ∙ ap (λ b. b || passes (from + n)) (flag_after raises from n flag)
    ∙ or_assoc flag (nat_lt (from / 524288) ((from + n) / 524288)) (passes (from + n))
    ∙ ap (λ b. flag || b) (turns_next from (from + n) (omega arith) ∙ ap (λ t. nat_lt (from / 524288) (t / 524288)) (sym one))
