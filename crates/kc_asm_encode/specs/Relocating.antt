-- Which numbers depend on bases, what a module has in their place, and what its relocations are. A piece is relocatable,
-- or absolute at an address (after the MCS-96 Macro Assembler User's Guide, "Relocation").
use Rattle.std.specs.Prelude.{ℕ, Bool, true, false, ◌+◌, ◌<◌, not, ◌&&◌, ◌==◌, if◌then◌else◌, Option, Some, None}
use Rattle.kc_lex.specs.Codes.{does_not_fit, out_of_reach}
use Rattle.kc_expr.specs.declared.values.Base.{Base}
use Rattle.kc_expr.specs.declared.values.Base.TheVariants.{Fixed, Absolute, Piece, External}
use Rattle.kc_expr.specs.declared.values.Value.{Value}
use Rattle.kc_obj_module.specs.Numbers.{Bases, is_distance, number, reach, first_part, fits}
use Rattle.kc_asm_encode.specs.declared.relocatable_byte.RelocatableByte.{RelocatableByte}
use Rattle.kc_asm_encode.specs.declared.relocatable_byte.RelocatableByte.TheVariants.{Plain, First, Second}
use Rattle.kc_asm_encode.specs.Filling.{address, fill}

-- the base is a piece or an external
abbrev pub counts : Base → Bool
counts Fixed = false
counts Absolute = false
counts (Piece p) = true
counts (External e) = true

abbrev pub is_piece : ℕ → Base → Bool
is_piece n Fixed = false
is_piece n Absolute = false
is_piece n (Piece p) = p == n
is_piece n (External e) = false

-- whether a distance from a piece depends on a base: not where both ends are in it, or both are addresses
abbrev pub leaves : Option ℕ → ℕ → Base → Bool
leaves None piece b = not (is_piece piece b)
leaves (Some at) piece b = counts b

-- whether a number in a piece depends on a base
unfoldable pub depends : ℕ → Option ℕ → ℕ → Base → Bool
depends kind at piece b = if is_distance kind then leaves at piece b else counts b

-- with all pieces at 0
abbrev pub no_bases : Bases
no_bases = record { piece = λ _. 0; external = λ _. 0 }

-- the byte that the module has: of a number that depends on a base the part that stands, and else the whole
unfoldable pub shown : Option ℕ → ℕ → ℕ → RelocatableByte → ℕ
shown at piece place (Plain b) = b
shown at piece place (First kind start v) = if depends kind at piece v.base then start else fill no_bases place (First kind start v)
shown at piece place (Second kind v) = if depends kind at piece v.base then 0 else fill no_bases place (Second kind v)

-- the number that a relocation begins at this byte fills in: its kind and its value
unfoldable pub relocated : Option ℕ → ℕ → RelocatableByte → Option (ℕ × Value)
relocated at piece (Plain b) = None
relocated at piece (First kind start v) = if depends kind at piece v.base then Some (kind, v) else None
relocated at piece (Second kind v) = None

-- a byte (kind 1) or a distance
abbrev pub misfit_code : ℕ → ℕ
misfit_code kind = if kind == 1 then does_not_fit else out_of_reach

-- the code of the fault where a number that depends on no base does not fit its bytes: 12 for a byte, 19 for a jump
unfoldable pub misfit : Option ℕ → ℕ → ℕ → RelocatableByte → Option ℕ
misfit at piece place (Plain b) = None
misfit at piece place (First kind start v) =
    if not (depends kind at piece v.base) && not (fits kind (number kind (place + reach kind) (address no_bases v)))
    then Some (misfit_code kind) else None
misfit at piece place (Second kind v) = None

-- the number of a relocatable byte has room in its byte beside what else stands there
abbrev pub HasRoom : ℕ → RelocatableByte → Type 0
HasRoom place (Plain b) = Unit {0}
HasRoom place (First kind start v) = start + first_part kind (number kind (place + reach kind) (address no_bases v)) < 256
HasRoom place (Second kind v) = Unit {0}
