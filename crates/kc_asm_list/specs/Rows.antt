-- A listing of a source: of each line its number, what stands there, and its text (after the list file of the MCS-96 Macro
-- Assembler User's Guide, in outline; the rows are this kit's own).
use Rattle.std.specs.Prelude.{ℕ, zero, suc, Bool, ◌+◌, ◌-◌, ◌||◌, ◌==◌, nat_lt, if◌then◌else◌, min, List, [], ◌∷◌, ◌++◌, length, replicate, decimal, flat_map, Option, Some, None}
use Rattle.std.specs.List.{filter}
use Rattle.kc_base.specs.Digits.{hex}
use Rattle.kc_base.specs.TextLines.{text_lines}
use Rattle.kc_obj_module.specs.declared.parts.SegKind.{SegKind}
use Rattle.kc_obj_module.specs.declared.parts.SegKind.TheVariants.{Reg, Code, Ram, Stack}
use Rattle.kc_obj_module.specs.Object.{Object}
use Rattle.kc_asm_list.specs.declared.spot.Spot.{Spot}
use Rattle.kc_asm_list.specs.RelocatableBytes.{relocatable_text, reported}

-- ---- the prefix of a row

-- a number at the right of seven columns
abbrev pub number_text : ℕ → List ℕ
number_text n = replicate (7 - length (decimal n)) 32 ++ decimal n

abbrev pub letter : SegKind → ℕ
letter Reg = 82
letter Code = 67
letter Ram = 68
letter Stack = 83

-- a `'` says that places count from the base of a relocatable piece
abbrev pub tick : Option ℕ → ℕ
tick None = 39
tick (Some base) = 32

-- a statement that an expansion makes has `+` and its depth: of how many calls and repetitions, one in the other, it comes
abbrev pub depth_text : ℕ → List ℕ
depth_text zero = 32 ∷ 32 ∷ []
depth_text (suc n) = 43 ∷ decimal (suc n)

-- the line, the depth, the kind of the piece, and a place
abbrev pub prefix : Spot → ℕ → List ℕ
prefix s place = number_text s.line ++ 32 ∷ depth_text s.depth ++ 32 ∷ letter s.kind ∷ tick s.at ∷ hex 4 place

-- ---- bytes, eight in a row

abbrev pub turn : Spot → ℕ → ℕ → List ℕ
turn s column place = if column == 8 then 10 ∷ prefix s place else []

abbrev pub column_after : ℕ → ℕ
column_after column = if column == 8 then 1 else column + 1

-- so many bytes from a place on, behind others in the row
unfoldable pub bytes_text : Object → Spot → ℕ → ℕ → ℕ → List ℕ
bytes_text m s column place zero = []
bytes_text m s column place (suc n) = turn s column place ++ relocatable_text m s place ++ bytes_text m s (column_after column) (place + 1) n

-- bytes that lead on to the place of a statement, in rows before its own
abbrev pub filling_rows : Object → Spot → ℕ → List ℕ
filling_rows m s zero = []
filling_rows m s (suc n) = prefix s s.before ++ bytes_text m s 0 s.before (suc n) ++ 10 ∷ []

abbrev pub filling_text : Object → Spot → List ℕ
filling_text m s = filling_rows m s (reported m s s.before s.place)

-- ---- a statement: its place is reported where it has a label or takes up room

abbrev pub is_reported : Spot → Bool
is_reported s = s.labelled || nat_lt s.before s.after

-- the text of a line stands from column 42 on
abbrev pub beside : List ℕ → List ℕ → List ℕ
beside row [] = row
beside row (c ∷ cs) = row ++ replicate (42 - length row) 32 ++ c ∷ cs

abbrev pub bare_text : ℕ → List ℕ → List ℕ
bare_text line words = beside (number_text line) words ++ 10 ∷ []

-- the statement that the line itself is: the first eight bytes stand beside the text
abbrev pub own_rows : Object → Spot → List ℕ → ℕ → List ℕ
own_rows m s words n =
    beside (prefix s s.place ++ bytes_text m s 0 s.place (min 8 n)) words ++ bytes_text m s 8 (s.place + 8) (n - 8) ++ 10 ∷ []

abbrev pub own_text : Object → List ℕ → Spot → List ℕ
own_text m words s =
    if is_reported s then filling_text m s ++ own_rows m s words (reported m s s.place s.after) else bare_text s.line words

-- a statement that an expansion makes of the line
abbrev pub made_text : Object → Spot → List ℕ
made_text m s =
    if is_reported s then filling_text m s ++ prefix s s.place ++ bytes_text m s 0 s.place (reported m s s.place s.after) ++ 10 ∷ [] else []

-- ---- a line, with the statements that come out of it: the line itself, or the label before a call, comes out first

abbrev pub all_made : Object → List Spot → List ℕ
all_made m spots = flat_map (made_text m) spots

abbrev pub line_text : Object → ℕ → List ℕ → List Spot → List ℕ
line_text m line words [] = bare_text line words
line_text m line words (s ∷ ss) =
    if s.depth == 0 then own_text m words s ++ all_made m ss else bare_text line words ++ all_made m (s ∷ ss)

-- the statements of a line, in the order in which they come out
abbrev pub is_on : ℕ → Spot → Bool
is_on line s = s.line == line

unfoldable pub lines_text : Object → List Spot → ℕ → List (List ℕ) → List ℕ
lines_text m spots line [] = []
lines_text m spots line (words ∷ rest) = line_text m line words (filter (is_on line) spots) ++ lines_text m spots (line + 1) rest

abbrev pub listing : Object → List ℕ → List Spot → List ℕ
listing m source spots = lines_text m spots 1 (text_lines source)
