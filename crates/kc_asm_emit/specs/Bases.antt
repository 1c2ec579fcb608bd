-- What the bytes of statements count from: nothing that the names they use do not count from. And each number has a kind,
-- and is added to 0 or to the opcode of a jump of 11 bits.
use Rattle.std.specs.Prelude.{◌≡◌, ℕ, Bool, true, ◌&&◌, nat_le, List, Some}
use Rattle.std.specs.List.{list_all}
use Rattle.kc_expr.specs.declared.values.Base.{Base}
use Rattle.kc_expr.specs.declared.values.Base.TheVariants as bases
use Rattle.kc_expr.specs.declared.values.Value.{Value}
use Rattle.kc_expr.specs.Known.{is_known}
use Rattle.kc_source_statement.specs.Trees.{ActionTree}
use Rattle.kc_obj_module.specs.Fixups.{may_begin}
use Rattle.kc_asm_encode.specs.declared.relocatable_byte.RelocatableByte.{RelocatableByte}
use Rattle.kc_asm_encode.specs.declared.relocatable_byte.RelocatableByte.TheVariants.{Plain, First, Second}
use Rattle.kc_branch.specs.declared.piece.Form.{Form}
use Rattle.kc_asm_emit.specs.Arguments.{Look}
use Rattle.kc_asm_emit.specs.Content.{Content, Nothing, RelocatableBytes, Reserved, Upto, Even, content}

-- a number of a kind that exists, at a byte where it may stand, from a base that is known
abbrev pub is_relocatable_byte : (Base → Bool) → RelocatableByte → Bool
is_relocatable_byte known (Plain b) = true
is_relocatable_byte known (First kind start v) = nat_le kind 4 && (may_begin kind (Some start) && known v.base)
is_relocatable_byte known (Second kind v) = true

abbrev pub AreRelocatableBytes : (Base → Bool) → Content → Type 0
AreRelocatableBytes known (RelocatableBytes os) = list_all (is_relocatable_byte known) os ≡ true
AreRelocatableBytes known Nothing = Unit {0}
AreRelocatableBytes known (Reserved n) = Unit {0}
AreRelocatableBytes known (Upto place) = Unit {0}
AreRelocatableBytes known Even = Unit {0}

abbrev pub ContentsAreRelocatableBytes : Type 0
ContentsAreRelocatableBytes =
    (known : Base → Bool) → known bases.Fixed ≡ true → known bases.Absolute ≡ true → (look : Look) → ((name : List ℕ) → is_known known (look name) ≡ true)
    → (form : Form) (place : Value) → known place.base ≡ true → (action : ActionTree) → AreRelocatableBytes known (content look form place action)
