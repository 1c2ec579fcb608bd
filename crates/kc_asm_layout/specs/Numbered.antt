-- What of a list of size records is so wherever it is the table of sizes of a module: pieces are numbered as they are opened, a segment is
-- in force until another one is opened, and statements in code have the alignment 1 or 2 (after the MCS-96 Macro Assembler
-- User's Guide, "Segments and the Location Counter").
use Rattle.std.specs.Prelude.{◌≡◌, ℕ, ◌+◌, Bool, true, ◌&&◌, ◌||◌, not, ◌==◌, if◌then◌else◌, List, [], ◌∷◌, Option, Some, None}
use Rattle.kc_obj_module.specs.Pieces.{kind_number}
use Rattle.kc_asm_symbols.specs.declared.segments.Segment.{Segment}
use Rattle.kc_asm_symbols.specs.Located.{first_segment, is_absolute}
use Rattle.kc_asm_layout.specs.declared.size_record.SizeRecord.{SizeRecord}

abbrev pub is_code : Segment → Bool
is_code g = kind_number g.kind == 1

abbrev pub is_same_piece : Segment → Segment → Bool
is_same_piece g h = (g.piece == h.piece) && (kind_number g.kind == kind_number h.kind)

-- one of the three relocatable pieces, with the kind of its number
abbrev pub is_relocatable : Segment → Bool
is_relocatable g = not (is_absolute g) && (g.piece == kind_number g.kind)

-- behind a statement in a segment, which opens an absolute piece or none: the same piece is still in force, or a relocatable
-- one, or the one that was opened
abbrev pub may_follow : Segment → Option ℕ → Segment → Bool
may_follow g None h = (is_same_piece g h || is_relocatable h) && (h.count == g.count)
may_follow g (Some address) h = (h.piece == g.count) && (h.count == g.count + 1)

-- a place in code has to be divisible by 1 or 2
abbrev pub aligns_well : SizeRecord → Bool
aligns_well n = if is_code n.segment then (n.alignment == 1) || (n.alignment == 2) else true

unfoldable pub numbered_after : Segment → Option ℕ → List SizeRecord → Bool
numbered_after g opens [] = true
numbered_after g opens (n ∷ ns) = may_follow g opens n.segment && aligns_well n && numbered_after n.segment n.opens ns

-- a module begins in its relocatable code
abbrev pub IsNumbered : List SizeRecord → Type 0
IsNumbered ns = numbered_after first_segment None ns ≡ true
