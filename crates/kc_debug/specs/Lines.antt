-- The lines of a debugger beside those of a trace (this kit's own).
use Rattle.std.specs.Prelude.{ℕ, zero, suc, ◌+◌, ◌-◌, ◌*◌, ◌/◌, ◌%◌, ◌^◌, min, List, [], ◌∷◌, ◌++◌, Option, Some, None, codes, decimal}
use Rattle.kc_extra.specs.Further.{Further}
use Rattle.kc_trace.specs.Text.{hex}
use Rattle.kc_machine_spec.specs.Machine.{Machine}
use Rattle.kc_machine_spec.specs.Peeking.{peeked}
use Rattle.kc_debug_script.specs.declared.line_map.MapEntry.{MapEntry}
use Rattle.kc_debug_script.specs.LineMap.{entry_at}
use Rattle.kc_debug.specs.declared.activities.Begun.{Begun}

-- a state and a program counter
abbrev pub state_fields : ℕ → ℕ → List ℕ
state_fields at pc = decimal at ++ codes " " ++ hex 4 pc

-- where the machine stands
abbrev pub stand_line : {X : Type 0} → Machine X → List ℕ
stand_line m = codes "T " ++ state_fields m.time m.cpu.pc ++ 10 ∷ []

-- the source line of an address
abbrev pub source_place : Option MapEntry → List ℕ
source_place None = []
source_place (Some e) = codes " " ++ e.name ++ (codes ":" ++ decimal e.line)

-- an activity: when it began, and where, with its source line
abbrev pub activity_line : List MapEntry → Begun → List ℕ
activity_line entries b = codes "A " ++ state_fields b.at b.pc ++ source_place (entry_at entries b.pc) ++ 10 ∷ []

module _ {X : Type 0} (f : Further X) (m : Machine X) where
  -- so many bytes from an address on; 0000H comes behind FFFFH
  unfoldable pub shown_bytes : ℕ → ℕ → List ℕ
  shown_bytes from zero = []
  shown_bytes from (suc more) = shown_bytes from more ++ hex 2 (peeked f m ((from + more) % 2 ^ 16))

  abbrev pub memory_line : ℕ → ℕ → List ℕ
  memory_line from count = codes "M " ++ hex 4 from ++ codes " " ++ shown_bytes from count ++ 10 ∷ []

  -- the first lines of so many bytes, 16 bytes a line
  unfoldable pub memory_rows : ℕ → ℕ → ℕ → List ℕ
  memory_rows from count zero = []
  memory_rows from count (suc more) = memory_rows from count more ++ memory_line ((from + 16 * more) % 2 ^ 16) (min (count - 16 * more) 16)

  abbrev pub memory_lines : ℕ → ℕ → List ℕ
  memory_lines from count = memory_rows from count ((count + 15) / 16)
