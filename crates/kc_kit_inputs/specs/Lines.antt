-- The lines of refused files: their names, the places and the codes of their faults (this kit's own).
use Rattle.std.specs.Prelude.{ℕ, ◌/◌, ◌%◌, List, ◌++◌, codes, decimal}

abbrev pub two_digits : ℕ → List ℕ
two_digits n = decimal (n / 10) ++ decimal (n % 10)

-- a code of one letter and two digits: of a source `E`, of a hex file `H`, of an object `O`, of a library `B`
abbrev pub coded : List ℕ → ℕ → List ℕ
coded letter n = letter ++ two_digits n

-- the place and the code of a fault in a file: the place is a line, or an offset in an object or a library
abbrev pub place_text : ℕ → List ℕ → List ℕ
place_text place code = codes ":" ++ decimal place ++ codes ": " ++ code ++ codes "\n"

abbrev pub source_line : List ℕ → ℕ → ℕ → List ℕ
source_line name line code = codes "source " ++ name ++ place_text line (coded (codes "E") code)

abbrev pub input_line : List ℕ → ℕ → List ℕ → List ℕ
input_line name place code = codes "input " ++ name ++ place_text place code
