-- What is printed of a meaning (this kit's own): the code with its sentence, and where there is an example, what is wrong and how
-- it is right, each from a line of its own on.
use Rattle.std.specs.Prelude.{ℕ, List, [], ◌++◌, codes, Option, Some, None}
use Rattle.kc_kit_messages.specs.Meanings.{Said}

abbrev pub example_text : Option (List ℕ × List ℕ) → List ℕ
example_text None = []
example_text (Some example) = codes "wrong:\n" ++ example.0 ++ codes "\nright:\n" ++ example.1 ++ codes "\n"

abbrev pub meaning_text : Said → List ℕ
meaning_text row = row.code ++ codes ": " ++ row.sentence ++ codes ".\n" ++ example_text row.example
