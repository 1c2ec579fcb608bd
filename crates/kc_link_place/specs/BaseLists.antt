-- What the numbers of a module count from, as lists in the order of the module (this kit's own).
use Rattle.std.specs.Prelude.{ℕ, Option, Some, None, List, slice_get}
use Rattle.kc_obj_module.specs.Numbers.{Bases}

-- the addresses of a module's pieces, and the numbers of its externals
pub record BaseLists : Type 0 where
  pub pieces : List ℕ
  pub externals : List ℕ

abbrev pub or_0 : Option ℕ → ℕ
or_0 None = 0
or_0 (Some n) = n

-- 0 for a piece or an external that the module does not have
abbrev pub bases_in : BaseLists → Bases
bases_in b = record { piece = λ p. or_0 (slice_get b.pieces p); external = λ e. or_0 (slice_get b.externals e) }
