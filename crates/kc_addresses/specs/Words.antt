-- The words of a line, with spaces and tabs between them; `;` begins a comment (this kit's own).
use Rattle.std.specs.Prelude.{ℕ, ◌==◌, Bool, ◌||◌, not, if◌then◌else◌, List, [], ◌∷◌, drop, length}
use Rattle.std.specs.List.{take_while}
use Rattle.kc_base.specs.TextLines.{with_first}

-- a space or a tab
abbrev pub is_blank : ℕ → Bool
is_blank c = (c == 32) || (c == 9)

-- all before the first `;` (59)
abbrev pub before_comment : List ℕ → List ℕ
before_comment line = take_while (λ c. not (c == 59)) line

abbrev pub without_blanks : List ℕ → List ℕ
without_blanks text = drop (length (take_while is_blank text)) text

-- the first word of a text, and what stands behind it
abbrev pub first_word : List ℕ → List ℕ
first_word text = take_while (λ c. not (is_blank c)) (without_blanks text)

abbrev pub behind_word : List ℕ → List ℕ
behind_word text = drop (length (first_word text)) (without_blanks text)

-- no word is left
abbrev pub is_over : List ℕ → Bool
is_over text = length (first_word text) == 0

-- ---- all words of a text

-- a character goes in front of the word that begins behind it, or is a word by itself
abbrev pub joined_to : ℕ → List ℕ → List (List ℕ) → List (List ℕ)
joined_to c [] words = (c ∷ []) ∷ words
joined_to c (d ∷ ds) words = if is_blank d then (c ∷ []) ∷ words else with_first c words

unfoldable pub words_in : List ℕ → List (List ℕ)
words_in [] = []
words_in (c ∷ cs) = if is_blank c then words_in cs else joined_to c cs (words_in cs)

-- a word, if it is one, and those of the text behind it
abbrev pub words_with : List ℕ → List ℕ → List (List ℕ)
words_with [] rest = []
words_with (c ∷ cs) rest = (c ∷ cs) ∷ words_in rest
