-- The bytes of a module with its relocations filled in.
use Rattle.std.specs.Prelude.{ℕ, zero, suc, Bool, ◌+◌, ◌%◌, ◌==◌, ◌&&◌, ◌||◌, nat_lt, if◌then◌else◌, Option, Some, None, List, [], ◌∷◌}
use Rattle.kc_obj_module.specs.declared.parts.Fixup.{Fixup}
use Rattle.kc_obj_module.specs.declared.parts.Target.{Target}
use Rattle.kc_obj_module.specs.declared.parts.Target.TheVariants.{Piece, External, Number}
use Rattle.kc_obj_module.specs.Object.{Object}
use Rattle.kc_obj_module.specs.Contents.{content_at}
use Rattle.kc_obj_module.specs.Fixups.{fixup_at}
use Rattle.kc_obj_module.specs.Numbers.{Bases, number, reach, first_part, second_part, fits, width}

-- the target plus the addend
abbrev pub target_number : Bases → Target → ℕ → ℕ
target_number bases (Piece p) n = (bases.piece p + n) % 65536
target_number bases (External e) n = (bases.external e + n) % 65536
target_number bases Number n = n

-- what a relocation puts, with its first byte at a place
abbrev pub fixup_number : Bases → ℕ → Fixup → ℕ
fixup_number bases place f = number f.kind (place + reach f.kind) (target_number bases f.target f.addend)

abbrev pub first_of_fixup : Bases → ℕ → Option Fixup → ℕ
first_of_fixup bases place None = 0
first_of_fixup bases place (Some f) = first_part f.kind (fixup_number bases place f)

abbrev pub second_of_fixup : Bases → ℕ → Option Fixup → ℕ
second_of_fixup bases place None = 0
second_of_fixup bases place (Some f) = if width f.kind == 2 then second_part f.kind (fixup_number bases place f) else 0

abbrev pub second_at : Bases → List Fixup → ℕ → ℕ → ℕ
second_at bases fs piece zero = 0
second_at bases fs piece (suc before) = second_of_fixup bases (bases.piece piece + before) (fixup_at fs piece before)

-- what relocations add to the byte at a place of a piece
abbrev pub part_at : Bases → List Fixup → ℕ → ℕ → ℕ
part_at bases fs piece offset = first_of_fixup bases (bases.piece piece + offset) (fixup_at fs piece offset) + second_at bases fs piece offset

abbrev pub plus : ℕ → Option ℕ → Option ℕ
plus n None = None
plus n (Some b) = Some (b + n)

-- the byte of a module at a place of a piece, filled
unfoldable pub filled_at : Bases → Object → ℕ → ℕ → Option ℕ
filled_at bases m piece offset = plus (part_at bases m.fixups piece offset) (content_at m.contents piece offset)

-- ---- relocations whose number does not fit

abbrev pub is_fit : Bases → Fixup → Bool
is_fit bases f = fits f.kind (fixup_number bases (bases.piece f.piece + f.offset) f)

-- the first of them
unfoldable pub unfit_in : Bases → List Fixup → Option Fixup
unfit_in bases [] = None
unfit_in bases (f ∷ fs) = if is_fit bases f then unfit_in bases fs else Some f

-- ---- by what the relocation of a place is found among sorted ones

abbrev pub is_before : ℕ → ℕ → Fixup → Bool
is_before piece offset f = nat_lt f.piece piece || ((f.piece == piece) && nat_lt f.offset offset)

abbrev pub if_there : ℕ → ℕ → Option Fixup → Option Fixup
if_there piece offset None = None
if_there piece offset (Some f) = if (f.piece == piece) && (f.offset == offset) then Some f else None
