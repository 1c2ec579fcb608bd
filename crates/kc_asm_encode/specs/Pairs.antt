-- The second byte of a number stands behind its first one, and nowhere else (80C196KC User's Manual, "Instruction Format").
use Rattle.std.specs.Prelude.{◌≡◌, ℕ, ◌==◌, if◌then◌else◌, Option, Some, None, List, [], ◌∷◌}
use Rattle.kc_expr.specs.declared.values.Value.{Value}
use Rattle.kc_obj_module.specs.Numbers.{width}
use Rattle.kc_asm_encode.specs.declared.relocatable_byte.RelocatableByte.{RelocatableByte}
use Rattle.kc_asm_encode.specs.declared.relocatable_byte.RelocatableByte.TheVariants.{Plain, First, Second}

-- the number whose second byte comes next
abbrev pub Pending : Type 0
Pending = Option (ℕ × Value)

abbrev pub opens : RelocatableByte → Pending
opens (Plain b) = None
opens (First kind start v) = if width kind == 2 then Some (kind, v) else None
opens (Second kind v) = None

abbrev pub Follows : Pending → RelocatableByte → Type 0
Follows None (Plain b) = Unit {0}
Follows None (First kind start v) = Unit {0}
Follows None (Second kind v) = ⊥
Follows (Some p) (Plain b) = ⊥
Follows (Some p) (First kind start v) = ⊥
Follows (Some p) (Second kind v) = (p.0 ≡ kind) × (p.1 ≡ v)

abbrev pub IsPairedFrom : Pending → List RelocatableByte → Type 0
IsPairedFrom p [] = p ≡ None
IsPairedFrom p (o ∷ os) = Follows p o × IsPairedFrom (opens o) os

abbrev pub IsPaired : List RelocatableByte → Type 0
IsPaired os = IsPairedFrom None os
