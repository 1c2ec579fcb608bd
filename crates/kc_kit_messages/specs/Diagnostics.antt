-- What is said in words of a fault in a file (this kit's own), in the form that editors know: its file, its line, its code with the
-- sentence of the code, and the line as it stands there. Of an object and a library, which have no lines, the place is a byte.
use Rattle.std.specs.Prelude.{ℕ, ◌-◌, ◌==◌, List, [], ◌++◌, codes, decimal, Option, Some, None, slice_get, if◌then◌else◌}
use Rattle.kc_base.specs.TextLines.{text_lines}
use Rattle.kc_kit_messages.specs.Meanings.{sentence_of}
use Rattle.kc_kit_files.specs.Shown.{shown}

-- the line of this number, from 1 on
abbrev pub line_at : List ℕ → ℕ → Option (List ℕ)
line_at text number = if number == 0 then None else slice_get (text_lines text) (number - 1)

abbrev pub line_shown : Option (List ℕ) → List ℕ
line_shown (Some line) = shown line ++ codes "\n"
line_shown None = []

-- the number of a line, behind the name of its file
abbrev pub number_text : ℕ → List ℕ
number_text line = codes ":" ++ decimal line

-- a code with more behind it, and a sentence
abbrev pub error_saying : List ℕ → List ℕ → List ℕ → List ℕ
error_saying code more sentence = codes ": error " ++ code ++ more ++ codes ": " ++ sentence ++ codes "\n"

-- that of the code
abbrev pub error_text : List ℕ → List ℕ → List ℕ
error_text code more = error_saying code more (sentence_of code)

abbrev pub line_diagnostic : List ℕ → List ℕ → ℕ → List ℕ → List ℕ
line_diagnostic name text line code = shown name ++ number_text line ++ error_text code [] ++ line_shown (line_at text line)

-- of a text of which no line is kept
abbrev pub unkept_diagnostic : List ℕ → ℕ → List ℕ → List ℕ
unkept_diagnostic name line code = shown name ++ number_text line ++ error_text code []

-- of a rule that is broken, by the line of its file
abbrev pub broken_diagnostic : List ℕ → List ℕ → ℕ → List ℕ
broken_diagnostic name text line = shown name ++ number_text line ++ codes ": error broken: " ++ line_shown (line_at text line)

abbrev pub byte_diagnostic : List ℕ → ℕ → List ℕ → List ℕ
byte_diagnostic name place code = shown name ++ error_text code (codes " at byte " ++ decimal place)
