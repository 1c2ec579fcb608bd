-- Lines that are read one after the other: what they say together, or the number of the first that says nothing (this kit's own).
use Rattle.std.specs.Prelude.{◌≡◌, ℕ, ◌+◌, Bool, true, false, Option, Some, None, Result, Ok, Err, List, [], ◌∷◌}

abbrev pub goes_on : {S : Type 0} → ℕ → (S → Result S ℕ) → Option S → Result S ℕ
goes_on number rest None = Err number
goes_on number rest (Some s) = rest s

-- each line adds to what the lines before it say; the first has this number
unfoldable pub read_from : {S : Type 0} → (S → List ℕ → Option S) → ℕ → S → List (List ℕ) → Result S ℕ
read_from add number so_far [] = Ok so_far
read_from add number so_far (line ∷ lines) = goes_on number (λ s. read_from add (number + 1) s lines) (add so_far line)

-- what is read with one more line, or that the line says nothing
abbrev pub IsAdded : {S : Type 0} → Bool → Option S → S → Type 0
IsAdded true with_line read = with_line ≡ Some read
IsAdded false with_line read = with_line ≡ None
