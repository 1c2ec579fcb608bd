-- What is found for a fault is one (this kit's own).
use Rattle.std.specs.Prelude.{◌≡◌, ℕ, List, Option}
use Rattle.kc_asm_origin.specs.Origin.{IsOrigin}

abbrev pub OneOrigin : Type 0
OneOrigin = (source : List ℕ) (line code : ℕ) (found other : Option ℕ) → IsOrigin source line code found → IsOrigin source line code other → found ≡ other
