-- How the machine's bus keeps edges and accesses (this kit's own).
use Rattle.std.specs.Prelude.{ℕ, ◌+◌, nat_lt, List, [], ◌∷◌, ◌++◌, length, if◌then◌else◌}
use Rattle.kc_base.specs.declared.types.Edge.{Edge}
use Rattle.kc_machine_spec.specs.Scene.{Keeping}

-- there is room for the edges of eight accesses, each of which may change eighteen pins
abbrev pub one_noted : List Edge → Edge → List Edge
one_noted old edge = if nat_lt (length old) 144 then old ++ edge ∷ [] else old

abbrev pub all_noted : List Edge → List Edge → List Edge
all_noted old [] = old
all_noted old (edge ∷ edges) = all_noted (one_noted old edge) edges

-- and for the sixteen bytes of eight accesses
abbrev pub counted : ℕ → ℕ → ℕ
counted a b = if nat_lt a 64 then a + b else a

abbrev pub fitting : Keeping
fitting = record { note = all_noted; count = counted }

-- a number that is known while the count goes on
abbrev pub while_counted : ℕ → ℕ → ℕ
while_counted count n = if nat_lt count 64 then n else 0
