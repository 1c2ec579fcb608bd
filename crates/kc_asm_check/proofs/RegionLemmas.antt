-- A piece of more than 65,535 bytes lies in no region.
use Rattle.std.proofs.Common.{◌≡◌, ℕ, ◌≤◌, arith, refl}
use Rattle.std.specs.Prelude.{false}
use Rattle.kc_obj_module.specs.declared.parts.SegKind.{SegKind}
use Rattle.kc_obj_module.specs.declared.parts.SegKind.TheVariants.{Reg, Code, Ram, Stack}
use Rattle.kc_obj_module.specs.Pieces.{in_region}

pub too_long : (kind : SegKind) (address count : ℕ) → 65536 ≤ count → in_region kind address count ≡ false
too_long Reg address count long = grind arith
too_long Code address count long = grind arith
too_long Ram address count long = grind arith
too_long Stack address count long = refl
