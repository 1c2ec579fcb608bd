-- Relocations of a module (80C196KC User's Manual, "Jump and Call instructions", for the displacements of 8, 11 and 16 bits; the
-- kinds are this kit's own).
use Rattle.std.specs.Prelude.{ℕ, Bool, true, false, ◌+◌, ◌==◌, ◌&&◌, ◌||◌, nat_lt, nat_le, if◌then◌else◌, Option, Some, None, List, [], ◌∷◌, length}
use Rattle.kc_obj_module.specs.Numbers.{is_distance, width}
use Rattle.kc_obj_module.specs.declared.parts.Segment.{Segment}
use Rattle.kc_obj_module.specs.declared.parts.Taken.{Taken}
use Rattle.kc_obj_module.specs.declared.parts.Content.{Content}
use Rattle.kc_obj_module.specs.declared.parts.Fixup.{Fixup}
use Rattle.kc_obj_module.specs.declared.parts.Target.{Target}
use Rattle.kc_obj_module.specs.declared.parts.Target.TheVariants as targets
use Rattle.kc_obj_module.specs.Contents.{content_at}

-- it names a piece or an external of the module; a number alone is filled in only where a distance is
abbrev pub target_exists : List Segment → List Taken → ℕ → Target → Bool
target_exists segments externals kind (targets.Piece piece) = nat_lt piece (length segments)
target_exists segments externals kind (targets.External external) = nat_lt external (length externals)
target_exists segments externals kind targets.Number = is_distance kind

abbrev pub fixup_is_sound : List Segment → List Taken → Fixup → Bool
fixup_is_sound segments externals f = nat_lt f.piece (length segments) && nat_le f.kind 4 && target_exists segments externals f.kind f.target

-- by rising place, none over another
abbrev pub fixup_follows : Fixup → Fixup → Bool
fixup_follows f g = nat_lt f.piece g.piece || ((f.piece == g.piece) && nat_le (f.offset + width f.kind) g.offset)

unfoldable pub fixups_in_order : List Fixup → Bool
fixups_in_order [] = true
fixups_in_order (f ∷ []) = true
fixups_in_order (f ∷ g ∷ fs) = fixup_follows f g && fixups_in_order (g ∷ fs)

-- the relocation whose first byte is at an offset of a piece, if one is
unfoldable pub fixup_at : List Fixup → ℕ → ℕ → Option Fixup
fixup_at [] piece offset = None
fixup_at (f ∷ fs) piece offset = if (f.piece == piece) && (f.offset == offset) then Some f else fixup_at fs piece offset

-- it fills in the byte at an offset of a piece
abbrev pub fills : ℕ → ℕ → Fixup → Bool
fills piece offset f = (f.piece == piece) && nat_le f.offset offset && nat_lt offset (f.offset + width f.kind)

-- what the first byte under a number holds: 0, or the opcode of a jump of 11 bits
abbrev pub may_begin : ℕ → Option ℕ → Bool
may_begin kind None = false
may_begin kind (Some byte) = if kind == 3 then (byte == 0x20) || (byte == 0x28) else byte == 0

abbrev pub is_zero : Option ℕ → Bool
is_zero None = false
is_zero (Some byte) = byte == 0

-- the bytes under it stand in contents and are free for the number
abbrev pub has_room : List Content → Fixup → Bool
has_room contents f = may_begin f.kind (content_at contents f.piece f.offset) && ((width f.kind == 1) || is_zero (content_at contents f.piece (f.offset + 1)))
