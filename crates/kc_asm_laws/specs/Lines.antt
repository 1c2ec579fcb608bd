-- Where the first fault of a source stands: at a line that the source has, so that the line can be shown (this kit's own).
use Rattle.std.specs.Prelude.{◌≡◌, ◌≢◌, ◌⊎◌, ℕ, ◌+◌, ◌-◌, ◌≤◌, List, length, Some, slice_get}
use Rattle.kc_base.specs.TextLines.{text_lines}
use Rattle.kc_lex.specs.Codes.{no_end}
use Rattle.kc_asm.specs.Assembled.{IsFirstFault}

-- lines are counted from 1
abbrev pub line_count : List ℕ → ℕ
line_count source = length (text_lines source)

abbrev pub IsLineOf : List ℕ → ℕ → Type 0
IsLineOf source line = (1 ≤ line) × (line ≤ line_count source)

-- a source without END is refused at the line behind its last; all else at a line that the source has
abbrev pub FaultsStandAtLines : Type 0
FaultsStandAtLines = (source : List ℕ) (line code : ℕ) → IsFirstFault source (line, code) →
    IsLineOf source line ⊎ ((line ≡ line_count source + 1) × (code ≡ no_end))

-- so each fault but that of a missing END is reported with the text of its line
abbrev pub FaultsHaveTheirLines : Type 0
FaultsHaveTheirLines = (source : List ℕ) (line code : ℕ) → IsFirstFault source (line, code) → code ≢ no_end →
    (1 ≤ line) × ((text : List ℕ) × (slice_get (text_lines source) (line - 1) ≡ Some text))
