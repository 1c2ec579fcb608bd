-- Lines that are read one after the other, up to the first that says nothing (this kit's own).
use Rattle.std.specs.Prelude.{ℕ, ◌+◌, Option, Some, None, Result, Ok, Err, List, [], ◌∷◌, ◌++◌, length}

-- goes on with what a line says, or reports its number
abbrev pub or_at : {A : Type 0} → ℕ → (A → Result (List A) ℕ) → Option A → Result (List A) ℕ
or_at line goes_on None = Err line
or_at line goes_on (Some a) = goes_on a

-- all that lines say, each behind what the lines before it say; or the number of the first that says nothing there
unfoldable pub said : {A : Type 0} → (List A → List ℕ → Option A) → List A → List (List ℕ) → Result (List A) ℕ
said says before [] = Ok before
said says before (line ∷ lines) = or_at (length before + 1) (λ a. said says (before ++ a ∷ []) lines) (says before line)
