-- The help on the commands (this kit's own). What is said of each is no matter of definitions: the texts are data.
use Rattle.std.specs.Prelude.{ℕ, Bool, List, flat_map, map}
use Rattle.std.specs.List.{filter}
use Rattle.std.specs.Str.{bytes_eq}
use Rattle.kc_kit_answer.specs.declared.help.TheConstants.{HELP}

-- commands, each with the lines on it
unfoldable pub help_rows : List (List ℕ × List ℕ)
help_rows = map (λ row. (row.0.now, row.1.now)) HELP

abbrev pub all_lines : List (List ℕ × List ℕ) → List ℕ
all_lines rows = flat_map (λ row. row.1) rows

abbrev pub help_text : List ℕ
help_text = all_lines help_rows

abbrev pub is_on : List ℕ → List ℕ × List ℕ → Bool
is_on verb row = bytes_eq row.0 verb

abbrev pub help_on : List ℕ → List ℕ
help_on verb = all_lines (filter (is_on verb) help_rows)
