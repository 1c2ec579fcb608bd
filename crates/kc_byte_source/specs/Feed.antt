-- A text that is read line by line (this kit's own).
use Rattle.std.specs.Prelude.{◌≡◌, ℕ, ◌<◌, Option, Some, None, List, ◌∷◌, ◌++◌, length, take, drop}
use Rattle.kc_base.specs.TextLines.{text_lines}

-- The line that was given last, and what is left of the text behind it, where the source reports it. Lines have at most so many
-- bytes; and so often has the source failed.
pub record Feed : Type 0 where
  pub line : List ℕ
  pub left : Option (List ℕ)
  pub most : ℕ
  pub faults : ℕ

-- the line is the first of the text, and the others are those of what is left
abbrev pub GaveLine : Option (List ℕ) → List ℕ → Option (List ℕ) → Type 0
GaveLine None line left = Unit {0}
GaveLine (Some text) line None = ⊥
GaveLine (Some text) line (Some rest) = text_lines text ≡ line ∷ text_lines rest

-- the first line of the text has more bytes than this
abbrev pub IsLongLine : ℕ → Option (List ℕ) → Type 0
IsLongLine most None = Unit {0}
IsLongLine most (Some text) = (line : List ℕ) × (lines : List (List ℕ)) × (text_lines text ≡ line ∷ lines) × (most < length line)

-- the first so many bytes of a text are its first line, and with its end so many, whatever comes behind: this
pub record IsLineOf (text : List ℕ) (len used : ℕ) (rest : List ℕ) : Type 0 where
  pub lines : text_lines (text ++ rest) ≡ take len text ∷ text_lines (drop used text ++ rest)
