use Rattle.std.proofs.Common.{◌≡◌, ◌++◌, ◌∷◌, [], take, length}
use Rattle.std.specs.List.{flat_map}
use Rattle.kc_lib.specs.Format.{member_bytes}
use Rattle.kc_lib.proofs.packing.spell.Given as goal

abbrev pub invariant-loop-module : goal.invariant-loop-module
invariant-loop-module l = l.out.items ≡ (0x4B ∷ 0x4C ∷ 0x01 ∷ length l.modules ∷ []) ++ flat_map member_bytes (take l.module-index l.modules)
