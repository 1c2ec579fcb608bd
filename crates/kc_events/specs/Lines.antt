-- The lines of a trace, and their text (this kit's own).
use Rattle.std.specs.Prelude.{ℕ, ◌≤◌, Bool, true, false, List, [], ◌∷◌, ◌++◌, codes, decimal, flat_map}
use Rattle.kc_base.specs.Limits.{max_states}
use Rattle.kc_trace.specs.Text.{fields_of}
use Rattle.kc_events.specs.declared.line.Line.{Line}
use Rattle.kc_events.specs.declared.line.Line.TheVariants.{Printed, Restarted}
use Rattle.kc_events.specs.Sound.{IsSound}

-- what has reset the chip
abbrev pub reset_name : Bool → List ℕ
reset_name true = codes "watchdog"
reset_name false = codes "reset"

-- the text of a line, without the byte that ends it
abbrev pub line_text : Line → List ℕ
line_text (Printed item) = fields_of item
line_text (Restarted at by_watchdog) = codes "B " ++ decimal at ++ codes " " ++ reset_name by_watchdog

-- the text of lines, each with the byte that ends it
unfoldable pub trace_text : List Line → List ℕ
trace_text lines = flat_map (λ line. line_text line ++ 10 ∷ []) lines

-- the numbers of a line are those of a run
abbrev pub IsSoundLine : Line → Type 0
IsSoundLine (Printed item) = IsSound item
IsSoundLine (Restarted at by_watchdog) = at ≤ max_states
