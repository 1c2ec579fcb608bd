-- What stands in an unlinked module that is written by whole numbers, each of which fits
-- (80C196KC User's Manual, "Instruction Format").
use Rattle.std.specs.Prelude.{◌≡◌, ℕ, true, ◌+◌, Some, None, slice_get}
use Rattle.std.specs.List.{list_all}
use Rattle.kc_expr.specs.declared.values.Value.{Value}
use Rattle.kc_obj_module.specs.Pieces.{kind_number}
use Rattle.kc_obj_module.specs.Numbers.{width}
use Rattle.kc_asm_encode.specs.declared.relocatable_byte.RelocatableByte.{RelocatableByte}
use Rattle.kc_asm_encode.specs.declared.relocatable_byte.RelocatableByte.TheVariants.{First, Second}
use Rattle.kc_asm_encode.specs.Relocating.{misfit}
use Rattle.kc_asm_section.specs.declared.unlinked.UnlinkedModule.{UnlinkedModule}
use Rattle.kc_asm_section.specs.Section.{Section, is_section, relocatable_byte_at}
use Rattle.kc_asm_section.specs.Order.{start_of}

-- the first byte of a number of two bytes stands before an offset
pub record HasFirst (t : Section) (offset kind : ℕ) (v : Value) : Type 0 where
  pub before : ℕ
  pub next : before + 1 ≡ offset
  pub wide : width kind ≡ 2
  pub begin : ℕ
  pub first : relocatable_byte_at t before ≡ Some (First kind begin v)

-- each second byte in a part stands behind its first one
abbrev pub HasFirsts : Section → Type 0
HasFirsts t = (offset kind : ℕ) (v : Value) → relocatable_byte_at t offset ≡ Some (Second kind v) → HasFirst t offset kind v

-- each number in a part that depends on no base fits its bytes
abbrev pub HasNoMisfit : Section → Type 0
HasNoMisfit t = (offset : ℕ) (relocatable_byte : RelocatableByte) → relocatable_byte_at t offset ≡ Some relocatable_byte → misfit t.at (kind_number t.kind) (start_of t.at + offset) relocatable_byte ≡ None

-- relocatable bytes stand by rising offset within the parts of an unlinked module, in whole numbers
pub record IsWhole (d : UnlinkedModule) : Type 0 where
  pub sections : list_all is_section d.parts.items ≡ true
  pub seconds : (part : ℕ) (t : Section) → slice_get d.parts.items part ≡ Some t → HasFirsts t

abbrev pub IsSettled : UnlinkedModule → Type 0
IsSettled d = (part : ℕ) (t : Section) → slice_get d.parts.items part ≡ Some t → HasNoMisfit t
