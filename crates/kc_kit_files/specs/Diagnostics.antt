-- What is said in words, on standard error, of a file that cannot be read or written, of the output and of memory (this kit's own).
use Rattle.std.specs.Prelude.{ℕ, List, ◌++◌, codes}
use Rattle.kc_kit_files.specs.Shown.{shown}

-- what is wrong with a file, behind its name
abbrev pub file_diagnostic : List ℕ → List ℕ → List ℕ
file_diagnostic name what = shown name ++ (codes ": error: " ++ what ++ codes "\n")

abbrev pub missing_diagnostic : List ℕ → List ℕ
missing_diagnostic name = file_diagnostic name (codes "the file is not there")

-- the sentence of the code LONG
abbrev pub too_long : List ℕ
too_long = codes "the file has over 1,048,576 bytes"

abbrev pub long_diagnostic : List ℕ → List ℕ
long_diagnostic name = shown name ++ (codes ": error LONG: " ++ too_long ++ codes "\n")

-- the sentence of a file that is not written, since no command would read it
abbrev pub too_long_to_read : List ℕ
too_long_to_read = codes "the file would be longer than the 1,048,576 bytes that commands read"

abbrev pub long_output_diagnostic : List ℕ → List ℕ
long_output_diagnostic name = shown name ++ (codes ": error LONG: " ++ too_long_to_read ++ codes "\n")

abbrev pub read_diagnostic : List ℕ → List ℕ
read_diagnostic name = file_diagnostic name (codes "the file could not be read")

abbrev pub write_diagnostic : List ℕ → List ℕ
write_diagnostic name = file_diagnostic name (codes "the file could not be written")

-- standard output
abbrev pub output_diagnostic : List ℕ
output_diagnostic = codes "kc96: error: standard output could not be written\n"

abbrev pub memory_diagnostic : List ℕ
memory_diagnostic = codes "kc96: error: out of memory\n"
