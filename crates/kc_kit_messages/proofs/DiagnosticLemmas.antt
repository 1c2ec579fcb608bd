-- The lines of a text.
use Rattle.std.proofs.Common.{◌≡◌, ℕ, List, [], ◌∷◌, length, None, refl, arith}
use Rattle.std.specs.Prelude.{slice_get}
use Rattle.kc_base.specs.TextLines.{text_lines}

-- a text of no characters has none
pub no-line : (text : List ℕ) (k : ℕ) → length text ≡ 0 → slice_get (text_lines text) k ≡ None
unfolding text_lines
no-line [] k h = refl
no-line (c ∷ cs) k h = absurd (omega (arith, h))
