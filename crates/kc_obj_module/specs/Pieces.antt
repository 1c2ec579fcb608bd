-- The pieces of a module (80C196KC User's Manual, "Memory Map"; the order and the regions are this kit's own).
use Rattle.std.specs.Prelude.{ℕ, Bool, true, false, not, ◌+◌, ◌-◌, ◌&&◌, ◌||◌, ◌==◌, nat_lt, nat_le, Option, Some, None, List, [], ◌∷◌}
use Rattle.std.specs.List.{list_any}
use Rattle.kc_base.specs.Limits.{register_file_end, hole_start, image_start, rom_end}
use Rattle.kc_obj_module.specs.declared.parts.SegKind.{SegKind}
use Rattle.kc_obj_module.specs.declared.parts.SegKind.TheVariants.{Reg, Code, Ram, Stack}
use Rattle.kc_obj_module.specs.declared.parts.Segment.{Segment}
use Rattle.kc_obj_module.specs.declared.parts.Given.{Given}
use Rattle.kc_obj_module.specs.declared.parts.Fixup.{Fixup}
use Rattle.kc_obj_module.specs.declared.parts.Target.{Target}
use Rattle.kc_obj_module.specs.declared.parts.Target.TheVariants as targets

abbrev pub kind_number : SegKind → ℕ
kind_number Reg = 0
kind_number Code = 1
kind_number Ram = 2
kind_number Stack = 3

abbrev pub is_register_kind : SegKind → Bool
is_register_kind Reg = true
is_register_kind Code = false
is_register_kind Ram = false
is_register_kind Stack = false

-- within addresses low to high with the whole length
abbrev pub lies_in : ℕ → ℕ → ℕ → ℕ → Bool
lies_in low high base len = nat_le low base && nat_le base high && nat_le (base + len) (high + 1)

-- registers, program memory, data memory; a stack is never absolute
abbrev pub in_region : SegKind → ℕ → ℕ → Bool
in_region Reg base len = lies_in 0 (register_file_end - 1) base len
in_region Code base len = lies_in image_start 0xFFFF base len
in_region Ram base len = lies_in register_file_end (hole_start - 1) base len || lies_in rom_end 0xFFFF base len
in_region Stack base len = false

abbrev pub based_well : SegKind → ℕ → Option ℕ → Bool
based_well kind len None = true
based_well kind len (Some base) = in_region kind base len

abbrev pub is_placed : Segment → Bool
is_placed s = based_well s.kind s.length s.at

-- relocatable ones by rising kind, then absolute ones
abbrev pub may_follow : Option ℕ → Option ℕ → ℕ → ℕ → Bool
may_follow None None kind next = nat_lt kind next
may_follow None (Some base) kind next = true
may_follow (Some base) None kind next = false
may_follow (Some base) (Some next_base) kind next = true

abbrev pub segment_follows : Segment → Segment → Bool
segment_follows s t = may_follow s.at t.at (kind_number s.kind) (kind_number t.kind)

unfoldable pub segments_in_order : List Segment → Bool
segments_in_order [] = true
segments_in_order (s ∷ []) = true
segments_in_order (s ∷ t ∷ ss) = segment_follows s t && segments_in_order (t ∷ ss)

-- ---- empty pieces: only those that something names

abbrev pub is_piece : Option ℕ → ℕ → Bool
is_piece None index = false
is_piece (Some piece) index = piece == index

abbrev pub targets_piece : Target → ℕ → Bool
targets_piece (targets.Piece piece) index = piece == index
targets_piece (targets.External external) index = false
targets_piece targets.Number index = false

-- a public or the target of a relocation names the piece
abbrev pub is_named : List Given → List Fixup → ℕ → Bool
is_named publics fixups index = list_any (λ g. is_piece g.piece index) publics || list_any (λ f. targets_piece f.target index) fixups

abbrev pub is_relocatable : Option ℕ → Bool
is_relocatable None = true
is_relocatable (Some base) = false

-- nothing stands in it that would keep it
abbrev pub is_empty : Segment → Bool
is_empty s = is_relocatable s.at && (s.length == 0)

abbrev pub is_kept : List Given → List Fixup → ℕ → Segment → Bool
is_kept publics fixups index s = not (is_empty s) || (not (kind_number s.kind == 3) && is_named publics fixups index)

unfoldable pub all_kept : List Given → List Fixup → ℕ → List Segment → Bool
all_kept publics fixups index [] = true
all_kept publics fixups index (s ∷ ss) = is_kept publics fixups index s && all_kept publics fixups (index + 1) ss

-- ---- code pieces

-- a code piece that is at least this long
abbrev pub has_code : Option Segment → ℕ → Bool
has_code None end = false
has_code (Some s) end = (kind_number s.kind == 1) && nat_le end s.length
