-- The bytes that relocatable bytes are once the bases are known
-- (after the MCS-96 Macro Assembler User's Guide, "Relocation"; 80C196KC User's Manual, "Instruction Format").
use Rattle.std.specs.Prelude.{ℕ, ◌+◌, ◌%◌, List, [], ◌∷◌}
use Rattle.kc_expr.specs.declared.values.Base.{Base}
use Rattle.kc_expr.specs.declared.values.Base.TheVariants.{Fixed, Absolute, Piece, External}
use Rattle.kc_expr.specs.declared.values.Value.{Value}
use Rattle.kc_obj_module.specs.Numbers.{Bases, number, reach, first_part, second_part}
use Rattle.kc_asm_encode.specs.declared.relocatable_byte.RelocatableByte.{RelocatableByte}
use Rattle.kc_asm_encode.specs.declared.relocatable_byte.RelocatableByte.TheVariants.{Plain, First, Second}

-- a number counted from its base, modulo 65536
abbrev pub base_address : Bases → Base → ℕ → ℕ
base_address bases Fixed n = n
base_address bases Absolute n = n
base_address bases (Piece p) n = (bases.piece p + n) % 65536
base_address bases (External e) n = (bases.external e + n) % 65536

-- what a value is
abbrev pub address : Bases → Value → ℕ
address bases v = base_address bases v.base v.number

-- the byte at an address
unfoldable pub fill : Bases → ℕ → RelocatableByte → ℕ
fill bases place (Plain b) = b
fill bases place (First kind start v) = start + first_part kind (number kind (place + reach kind) (address bases v))
fill bases place (Second kind v) = second_part kind (number kind (place + 1) (address bases v))

-- the bytes from an address on
unfoldable pub filled : Bases → ℕ → List RelocatableByte → List ℕ
filled bases place [] = []
filled bases place (o ∷ os) = fill bases place o ∷ filled bases (place + 1) os
