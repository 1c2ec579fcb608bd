-- Faults at lines, and the first of them: on the least line, and there of the least code.
use Rattle.std.specs.Prelude.{ℕ, Bool, ◌&&◌, ◌||◌, ◌==◌, nat_lt, if◌then◌else◌, List, [], ◌∷◌, Option, Some, None}

-- the line, from 1, and the code
abbrev pub Fault : Type 0
Fault = ℕ × ℕ

abbrev pub is_before : Fault → Fault → Bool
is_before f g = nat_lt f.0 g.0 || ((f.0 == g.0) && nat_lt f.1 g.1)

-- of two faults the one that comes first
abbrev pub first_of : Fault → Fault → Fault
first_of f g = if is_before g f then g else f

-- of two faults, of which there may be none
abbrev pub lesser : Option Fault → Option Fault → Option Fault
lesser None o = o
lesser (Some f) None = Some f
lesser (Some f) (Some g) = Some (first_of f g)

unfoldable pub least : List Fault → Option Fault
least [] = None
least (f ∷ fs) = lesser (Some f) (least fs)

abbrev pub at_line : ℕ → Option ℕ → Option Fault
at_line line None = None
at_line line (Some code) = Some (line, code)
