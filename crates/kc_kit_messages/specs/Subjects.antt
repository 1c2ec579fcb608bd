-- What is said in words of the first fault of a source: where it is about a name, its sentence has the name, and where it stands in a
-- macro's body, that line is reported too (this kit's own).
use Rattle.std.specs.Prelude.{ℕ, ◌==◌, List, [], ◌++◌, codes, Option, Some, None, if◌then◌else◌}
use Rattle.kc_kit_messages.specs.Meanings.{sentence_of}
use Rattle.kc_kit_files.specs.Shown.{shown}
use Rattle.kc_kit_messages.specs.Diagnostics.{number_text, error_saying, line_at, line_shown}

-- the words before a name and behind it, by the number of the code
abbrev pub around : ℕ → Option (List ℕ × List ℕ)
around number =
    if number == 6 then Some (codes "the name ", codes " is defined twice")
    else if number == 7 then Some (codes "the name ", codes " is not defined")
    else if number == 20 then Some (codes "PUBLIC of ", codes ", which is not defined here or counts from an external")
    else if number == 21 then Some (codes "EXTRN of ", codes ", which is defined here or taken already")
    else None

abbrev pub sentence_round : List ℕ → Option (List ℕ × List ℕ) → List ℕ → List ℕ
sentence_round code (Some words) name = words.0 ++ name ++ words.1
sentence_round code None name = sentence_of code

-- the sentence of a fault with this code, which may be about a name
abbrev pub sentence_about : List ℕ → ℕ → Option (List ℕ) → List ℕ
sentence_about code number (Some name) = sentence_round code (around number) name
sentence_about code number None = sentence_of code

abbrev pub source_diagnostic : List ℕ → List ℕ → ℕ → List ℕ → ℕ → Option (List ℕ) → List ℕ
source_diagnostic name text line code number subject =
    shown name ++ number_text line ++ error_saying code [] (sentence_about code number subject) ++ line_shown (line_at text line)

-- behind it the line of a macro's body in which the fault was written, where one is known
abbrev pub body_place : List ℕ → ℕ → List ℕ
body_place name line = shown name ++ number_text line ++ codes ": note: it was written here\n"

abbrev pub body_diagnostic : List ℕ → List ℕ → Option ℕ → List ℕ
body_diagnostic name text (Some line) = body_place name line ++ line_shown (line_at text line)
body_diagnostic name text None = []
