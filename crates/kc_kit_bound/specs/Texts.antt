-- What stands in many lines (this kit's own).
use Rattle.std.specs.Prelude.{ℕ, List, ◌++◌, codes, decimal}
use Rattle.kc_base.specs.Digits.{hex}

-- an address behind a blank
abbrev pub at_text : ℕ → List ℕ
at_text a = codes " " ++ hex 4 a

-- a word, an address and a number of states
abbrev pub states_line : List ℕ → ℕ → ℕ → List ℕ
states_line word a states = word ++ at_text a ++ codes " " ++ decimal states ++ codes "\n"
