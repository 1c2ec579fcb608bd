-- A rules file: its marks and rules, or its first line that has no reading (this kit's own).
use Rattle.std.specs.Prelude.{◌≡◌, ℕ, ◌+◌, if◌then◌else◌, Option, Some, None, Result, Ok, Err, List, [], ◌∷◌, ◌++◌, ◌==◌, length, map, codes}
use Rattle.std.specs.Option.{option_map}
use Rattle.kc_base.specs.TextLines.{text_lines}
use Rattle.kc_rules.specs.declared.fault.RulesFault.{RulesFault}
use Rattle.kc_rules.specs.declared.fault.RulesFault.TheVariants as faults
use Rattle.kc_rules.specs.declared.mark.Mark.{Mark}
use Rattle.kc_rules.specs.declared.rule.Rule.{Rule}
use Rattle.kc_rules.specs.declared.lines.Item.{Item}
use Rattle.kc_rules.specs.declared.lines.Item.TheVariants.{Blank}
use Rattle.kc_rules.specs.declared.lines.Item.TheVariants as items
use Rattle.kc_rules.specs.Words.{Word, words_of}
use Rattle.kc_rules.specs.Readings.{Reading, ◌>>=◌, says, behind_or, whole}
use Rattle.kc_rules.specs.Marks.{mark}
use Rattle.kc_rules.specs.Forms.{rule}

-- marks and rules, in the order of their lines
pub record Book : Type 0 where
  pub marks : List Mark
  pub rules : List Rule

abbrev pub names_of : List Mark → List Word
names_of marks = map (λ m. m.name) marks

unfoldable pub item : ℕ → ℕ → List Word → Reading Item
item clock line marks =
    behind_or (codes "mark") (mark clock marks >>= (λ m. says (items.Mark m))) (rule clock line marks >>= (λ r. says (items.Rule r)))

-- what a line of this number is, by its words: blank, a mark, or a rule, each by all the words; None where it has no reading
abbrev pub item_of : ℕ → ℕ → List Word → List Word → Option Item
item_of clock line marks words = if length words == 0 then Some Blank else whole (item clock line marks words)

abbrev pub with_item : Book → Item → Book
with_item book Blank = book
with_item book (items.Mark m) = record { marks = book.marks ++ m ∷ []; rules = book.rules }
with_item book (items.Rule r) = record { marks = book.marks; rules = book.rules ++ r ∷ [] }

unfoldable pub with_line : ℕ → ℕ → List ℕ → Book → Option Book
with_line clock line text book = option_map (with_item book) (item_of clock line (names_of book.marks) (words_of text))

-- the lines behind so many others, to what these have given: the number of the first that has no reading, if there is one
unfoldable pub read_lines : ℕ → ℕ → List (List ℕ) → Book → Result Book ℕ
read_lines clock before [] book = Ok book
read_lines clock before (text ∷ lines) book = elim (with_line clock (before + 1) text book) [
  | None ↦ Err (before + 1)
  | Some more ↦ read_lines clock (before + 1) lines more
]

abbrev pub no_lines : Book
no_lines = record { marks = []; rules = [] }

abbrev pub book_of : ℕ → List ℕ → Result Book ℕ
book_of clock bytes = read_lines clock 0 (text_lines bytes) no_lines

-- what a reader answers; memory may run out at any time
abbrev pub IsRead : ℕ → List ℕ → Result Book RulesFault → Type 0
IsRead clock bytes (Ok book) = book_of clock bytes ≡ Ok book
IsRead clock bytes (Err (faults.BadRule line)) = book_of clock bytes ≡ Err line
IsRead clock bytes (Err faults.NoMemory) = Unit {0}
