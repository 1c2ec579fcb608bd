-- Statements by rising line.
use Rattle.std.specs.Prelude.{ℕ, ◌≤◌, List, [], ◌∷◌}
use Rattle.kc_asm_list.specs.declared.spot.Spot.{Spot}

-- from a line on
abbrev pub Rises : ℕ → List Spot → Type 0
Rises from [] = Unit {0}
Rises from (s ∷ ss) = (from ≤ s.line) × Rises s.line ss
