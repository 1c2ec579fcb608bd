-- A converter keeps the laws of further units.
use Rattle.std.proofs.Common.{◌≡◌, ℕ, Bool, true, false, ◌||◌, refl, Some, None}
use Rattle.std.specs.Prelude.{is_some, if◌then◌else◌}
use Rattle.kc_span.specs.Span.{Counted}
use Rattle.kc_convert.specs.Converting.{Converting, is_low, is_high, low_byte, high_byte, converter_further}

pub answers_registers : (w s t : ℕ) (d : Counted Converting) → is_some (converter_further.answer w s t d) ≡ converter_further.readable w s
answers_registers w s t d = by (is_low w s) (is_high w s) (low_byte d.inner) (high_byte d.inner)
  where
    by : (low high : Bool) (m n : ℕ) → is_some (if low then Some m else (if high then Some n else None)) ≡ (low || high)
    by true high m n = refl
    by false true m n = refl
    by false false m n = refl

pub no_write_elsewhere : (w s v t : ℕ) (d : Counted Converting) → converter_further.writable w s ≡ false → converter_further.after_write w s v t d ≡ d
no_write_elsewhere w s v t d none = rw none refl
