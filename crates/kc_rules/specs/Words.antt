-- A line of a rules file as words (this kit's own).
use Rattle.std.specs.Prelude.{ℕ, Bool, not, ◌||◌, ◌==◌, if◌then◌else◌, List, [], ◌∷◌}
use Rattle.std.specs.List.{take_while}
use Rattle.kc_base.specs.TextLines.{with_first}

abbrev pub Word : Type 0
Word = List ℕ

abbrev pub is_blank : ℕ → Bool
is_blank c = (c == 32) || (c == 9)

-- where a word ends: before a blank or a comma
abbrev pub is_edge : ℕ → Bool
is_edge c = is_blank c || (c == 44)

-- a character goes in front of the word that begins behind it, or is a word by itself
abbrev pub joined_to : ℕ → List ℕ → List Word → List Word
joined_to c [] words = (c ∷ []) ∷ words
joined_to c (d ∷ ds) words = if is_edge d then (c ∷ []) ∷ words else with_first c words

-- words stand apart by blanks; a comma is a word of its own
unfoldable pub words_in : List ℕ → List Word
words_in [] = []
words_in (c ∷ cs) =
    if is_blank c then words_in cs
    else (if c == 44 then (c ∷ []) ∷ words_in cs
    else joined_to c cs (words_in cs))

-- what stands before a comment
abbrev pub body_of : List ℕ → List ℕ
body_of line = take_while (λ c. not (c == 59)) line

abbrev pub words_of : List ℕ → List Word
words_of line = words_in (body_of line)
