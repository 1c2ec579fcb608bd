-- The text in which the forms of generic branches are chosen: what stands in the relocatable code, and then in the absolute
-- pieces, each from its address on (after the MCS-96 Macro Assembler User's Guide, "Generic Branches").
use Rattle.std.specs.Prelude.{ℕ, ℤ, ◌+◌, ◌-◌, ◌/◌, ◌%◌, Bool, true, false, ◌&&◌, ◌||◌, ◌==◌, if◌then◌else◌, List, [], ◌∷◌, ◌++◌, length, drop, replicate, map, Option, Some, None, slice_get, slice_index}
use Rattle.kc_asm_symbols.specs.declared.segments.Segment.{Segment}
use Rattle.kc_asm_symbols.specs.Located.{is_absolute, first_segment}
use Rattle.kc_branch.specs.declared.piece.Form.{Form}
use Rattle.kc_branch.specs.declared.piece.Form.TheVariants.{First}
use Rattle.kc_branch.specs.declared.piece.Piece.{Piece}
use Rattle.kc_branch.specs.declared.piece.Piece.TheVariants as piece
use Rattle.kc_branch.specs.Forms.{size, head_form, forms}
use Rattle.kc_asm_layout.specs.declared.size_record.Anchor.{Anchor}
use Rattle.kc_asm_layout.specs.declared.size_record.Anchor.TheVariants as anchor
use Rattle.kc_asm_layout.specs.declared.size_record.Body.{Body}
use Rattle.kc_asm_layout.specs.declared.size_record.Body.TheVariants.{Bytes, Upto, Even, Branch}
use Rattle.kc_asm_layout.specs.declared.size_record.SizeRecord.{SizeRecord}
use Rattle.kc_asm_layout.specs.declared.location.Location.{Location}
use Rattle.kc_asm_layout.specs.Numbered.{is_code}
use Rattle.kc_asm_layout.specs.Places.{locations}

-- ---- one statement

-- what the target of a branch is in the text, by the segment of the branch
abbrev pub Target : Type 0
Target = Segment → Anchor → Option (ℕ × ℤ)

-- a piece of text has at most 65,535 bytes
abbrev pub bytes_text : ℕ → List Piece
bytes_text n = replicate (n / 65535) (piece.Bytes 65535) ++ piece.Bytes (n % 65535) ∷ []

-- a branch outside code, which is a fault, keeps its first form
abbrev pub body_text : Target → Segment → Body → List Piece
body_text target g (Bytes n) = bytes_text n
body_text target g (Upto to) = piece.At to ∷ []
body_text target g Even = piece.Even ∷ []
body_text target g (Branch kind a) =
    if is_code g then piece.Branch kind (target g a) ∷ [] else piece.Bytes (size kind First) ∷ []

-- what leads to the place of a statement: in code, where branches stand, to an even one; elsewhere no place depends on a form
abbrev pub lead : ℕ → SizeRecord → List Piece
lead gap n = if is_code n.segment then (if n.alignment == 2 then piece.Even ∷ [] else []) else bytes_text gap

abbrev pub own_text : Target → ℕ → SizeRecord → List Piece
own_text target gap n = lead gap n ++ body_text target n.segment n.body

-- ---- all of them, with the gap before each: of the relocatable code, and of absolute pieces

abbrev pub is_main : Segment → Bool
is_main g = g.piece == 1

abbrev pub main_text : Target → ℕ → SizeRecord → List Piece
main_text target gap n = if is_main n.segment then own_text target gap n else []

abbrev pub opening : Option ℕ → List Piece
opening None = []
opening (Some address) = piece.At address ∷ []

abbrev pub absolute_text : Target → ℕ → SizeRecord → List Piece
absolute_text target gap n = (if is_absolute n.segment then own_text target gap n else []) ++ opening n.opens

abbrev pub next_gap : List ℕ → ℕ
next_gap gaps = slice_index gaps 0

unfoldable pub text_by : (ℕ → SizeRecord → List Piece) → List ℕ → List SizeRecord → List Piece
text_by text gaps [] = []
text_by text gaps (n ∷ ns) = text (next_gap gaps) n ++ text_by text (drop 1 gaps) ns

abbrev pub whole_text : Target → List ℕ → List SizeRecord → List Piece
whole_text target gaps ns = text_by (main_text target) gaps ns ++ text_by (absolute_text target) gaps ns

-- ---- targets

abbrev pub nowhere : Target
nowhere g a = None

-- how many pieces of text stand before the place of a statement, where so many of each text stand before the statement; 0
-- for one that has no text
abbrev pub position : ℕ → ℕ → ℕ → SizeRecord → ℕ
position main absolute gap n =
    if is_main n.segment then main + length (lead gap n)
    else (if is_absolute n.segment then absolute + length (lead gap n) else 0)

unfoldable pub positions_from : ℕ → ℕ → List ℕ → List SizeRecord → List ℕ
positions_from main absolute gaps [] = []
positions_from main absolute gaps (n ∷ ns) =
    position main absolute (next_gap gaps) n
    ∷ positions_from (main + length (main_text nowhere (next_gap gaps) n)) (absolute + length (absolute_text nowhere (next_gap gaps) n)) (drop 1 gaps) ns

-- the text of the absolute pieces stands behind that of the relocatable code
abbrev pub positions : List ℕ → List SizeRecord → List ℕ
positions gaps ns = positions_from 0 (length (text_by (main_text nowhere) gaps ns)) gaps ns

-- a distance does not depend on a base where both ends are in one piece, or both in absolute ones
abbrev pub is_same_base : Segment → Segment → Bool
is_same_base g h = (is_absolute g && is_absolute h) || (g.piece == h.piece)

abbrev pub segment_in : Option SizeRecord → Segment
segment_in None = first_segment
segment_in (Some n) = n.segment

abbrev pub segment_at : List SizeRecord → ℕ → Segment
segment_at ns number = segment_in (slice_get ns number)

abbrev pub target_in : List ℕ → List SizeRecord → Target
target_in places ns g (anchor.Statement number distance) =
    if is_same_base g (segment_at ns number) then Some (slice_index places number, distance) else None
target_in places ns g anchor.External = None
target_in places ns g anchor.Nothing = None

-- ---- forms

-- the gap before each statement, with all branches in their first form
abbrev pub gap_before : Location → ℕ
gap_before s = s.place - s.before

abbrev pub gaps : List SizeRecord → List ℕ
gaps ns = map gap_before (locations [] ns)

abbrev pub text : List SizeRecord → List Piece
text ns = whole_text (target_in (positions (gaps ns) ns) ns) (gaps ns) ns

abbrev pub is_branch : Body → Bool
is_branch (Bytes n) = false
is_branch (Upto to) = false
is_branch Even = false
is_branch (Branch kind a) = true

abbrev pub is_code_branch : SizeRecord → Bool
is_code_branch n = is_code n.segment && is_branch n.body

-- one of the relocatable code, and one of an absolute piece
abbrev pub is_main_branch : SizeRecord → Bool
is_main_branch n = is_main n.segment && is_code_branch n

abbrev pub is_absolute_branch : SizeRecord → Bool
is_absolute_branch n = is_absolute n.segment && is_code_branch n

unfoldable pub count_main : List SizeRecord → ℕ
count_main [] = 0
count_main (n ∷ ns) = (if is_main_branch n then 1 else 0) + count_main ns

-- the next form of those that are left goes to a branch
abbrev pub form_for : SizeRecord → List Form → List Form → Form
form_for n main absolute =
    if is_main_branch n then head_form main else (if is_absolute_branch n then head_form absolute else First)

abbrev pub left_behind : Bool → List Form → List Form
left_behind takes fs = if takes then drop 1 fs else fs

-- the form of each statement, where the branches of the relocatable code, and of absolute pieces, have these
unfoldable pub dealt : List Form → List Form → List SizeRecord → List Form
dealt main absolute [] = []
dealt main absolute (n ∷ ns) =
    form_for n main absolute ∷ dealt (left_behind (is_main_branch n) main) (left_behind (is_absolute_branch n) absolute) ns

abbrev pub statement_forms : List Form → List SizeRecord → List Form
statement_forms chosen ns = dealt chosen (drop (count_main ns) chosen) ns

-- where all statements stand
abbrev pub layout : List SizeRecord → List Location
layout ns = locations (statement_forms (forms (text ns)) ns) ns
