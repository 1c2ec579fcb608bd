-- How the levels of expressions are gone through in one run: from an expression of a tight level to the longest of a looser one.
use Rattle.std.specs.Prelude.{ℕ, zero, suc, ◌+◌, ◌*◌, ◌<◌, ◌≤◌, ◌==◌, if◌then◌else◌, Option, Some, None, option_and_then}
use Rattle.kc_expr.specs.Grammar.{Reading, extended}

-- an operator that is found with its level, seen from one level
abbrev pub at_level : {Op : Type 0} → ℕ → Option (Op × ℕ) → Option Op
at_level level None = None
at_level level (Some found) = if level == found.1 then Some found.0 else None

-- what is read, gone on with at so many levels that are looser than the tight one; steps says how many steps each level takes at
-- most
unfoldable pub climbed : (ℕ → ℕ) → ℕ → ℕ → Reading → Reading
climbed steps tight zero read = read
climbed steps tight (suc n) read = option_and_then (λ p. extended (steps (tight + suc n)) (tight + suc n) p.0 p.1) (climbed steps tight n read)

-- each level has more steps than so many tokens can take
abbrev pub AreEnough : (ℕ → ℕ) → ℕ → ℕ → ℕ → Type 0
AreEnough steps tight level left = (l : ℕ) → tight < l → l ≤ level → 16 * left + 2 * l < steps l
