-- Line entries of a module: from which line of the source the bytes at a place come (this kit's own).
use Rattle.std.specs.Prelude.{Bool, true, ◌+◌, ◌==◌, ◌&&◌, ◌||◌, nat_lt, Option, Some, None, List, [], ◌∷◌, slice_get}
use Rattle.std.specs.List.{list_all}
use Rattle.kc_obj_module.specs.declared.parts.Segment.{Segment}
use Rattle.kc_obj_module.specs.declared.parts.Lines.{Lines}
use Rattle.kc_obj_module.specs.Pieces.{has_code}

-- at a byte of a code piece, and from line 1 on
abbrev pub line_is_sound : List Segment → Lines → Bool
line_is_sound segments l = has_code (slice_get segments l.piece) (l.offset + 1) && nat_lt 0 l.line

abbrev pub line_follows : Lines → Lines → Bool
line_follows l next = nat_lt l.piece next.piece || ((l.piece == next.piece) && nat_lt l.offset next.offset)

unfoldable pub lines_in_order : List Lines → Bool
lines_in_order [] = true
lines_in_order (l ∷ []) = true
lines_in_order (l ∷ next ∷ ls) = line_follows l next && lines_in_order (next ∷ ls)

abbrev pub lines_are_sound : List Segment → Option (List Lines) → Bool
lines_are_sound segments None = true
lines_are_sound segments (Some lines) = list_all (line_is_sound segments) lines && lines_in_order lines
