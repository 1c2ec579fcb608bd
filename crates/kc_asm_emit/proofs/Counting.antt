-- Counts that stop at a greatest number, and gaps.
use Rattle.std.proofs.Common.{◌≡◌, arith, ℕ, ◌+◌, ◌-◌, ◌*◌, ◌/◌, ◌%◌, ◌<◌, ◌≤◌, sym, ap, ◌∙◌}
use Rattle.std.specs.Prelude.{min}
use Rattle.std.proofs.Math.Nat.{add-mod-mod, mod-add-div, mod-lt, mul-mod_right}
use Rattle.kc_asm_emit.specs.Seen.{most}

pub min_small : (n : ℕ) → n ≤ most → min n most ≡ n
min_small n small = grind arith

-- a count that stops, with one more number that stops, and the rest
pub counts_on : (a b rest : ℕ) → min (min (a + min b most) most + rest) most ≡ min (a + (b + rest)) most
counts_on a b rest = grind arith

next : (place align q r : ℕ) → place ≡ r + align * q → r ≤ align → place + (align - r) ≡ align * (q + 1)
next place align q r e small = grind arith

-- the filling leads to a place that is divisible
pub gap_divides : (place align : ℕ) → 1 ≤ align → (place + (align - place % align) % align) % align ≡ 0
gap_divides place align some =
    add-mod-mod place (align - place % align) align
    ∙ ap (λ n. n % align) (next place align (place / align) (place % align) (sym (mod-add-div place align)) (small (mod-lt place some)))
    ∙ mul-mod_right align (place / align + 1)
  where
    small : {r : ℕ} → r < align → r ≤ align
    small below = omega (arith, below)
