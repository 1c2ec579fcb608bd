-- Where the parts of an unlinked module stand once the pieces of its module have their bases
-- (after the MCS-96 Macro Assembler User's Guide, "Program Segments").
use Rattle.std.specs.Prelude.{◌≡◌, ℕ, ◌+◌, ◌-◌, nat_lt, if◌then◌else◌, Some, length, slice_get}
use Rattle.kc_asm_encode.specs.declared.relocatable_byte.RelocatableByte.{RelocatableByte}
use Rattle.kc_obj_module.specs.Numbers.{Bases}
use Rattle.kc_asm_section.specs.declared.unlinked.UnlinkedModule.{UnlinkedModule}
use Rattle.kc_asm_section.specs.Section.{Section, relocatable_byte_at}
use Rattle.kc_asm_section.specs.Order.{count_of, number_of, stack_pieces}
use Rattle.kc_asm_section.specs.ModuleOf.{kept_in}

-- a relocatable byte stands at an offset of a part
pub record StandsIn (d : UnlinkedModule) (part : ℕ) (t : Section) (offset : ℕ) (relocatable_byte : RelocatableByte) : Type 0 where
  pub is_part : slice_get d.parts.items part ≡ Some t
  pub is_relocatable_byte : relocatable_byte_at t offset ≡ Some relocatable_byte

-- the number of the piece that the first absolute part is: relocatable parts that are kept and the stack stand before it
abbrev pub first_absolute : UnlinkedModule → ℕ
first_absolute d =
    count_of (kept_in d).registers + (count_of (kept_in d).code + (count_of (kept_in d).ram + length (stack_pieces d.stack)))

-- the number of the piece that a part is
abbrev pub piece_number : UnlinkedModule → ℕ → ℕ
piece_number d part = if nat_lt part 3 then number_of (kept_in d) part else first_absolute d + (part - 3)

-- where a part begins, by the bases of the pieces of the module
abbrev pub start : Bases → UnlinkedModule → ℕ → ℕ
start bases d part = bases.piece (piece_number d part)

-- what the values of the unlinked module count from: they have the numbers of the relocatable parts
abbrev pub part_bases : Bases → UnlinkedModule → Bases
part_bases bases d = record { piece = λ part. bases.piece (number_of (kept_in d) part); external = bases.external }
