-- Which events an event is: by its kind, its marks, and the levels at the end of its state (this kit's own).
use Rattle.std.specs.Prelude.{◌==◌, Bool, true, false, not, ◌&&◌, Option, Some, None, List, slice_index_or}
use Rattle.std.specs.List.{list_any}
use Rattle.kc_base.specs.declared.types.Level.{Level}
use Rattle.kc_base.specs.declared.types.Level.TheVariants.{Low, High}
use Rattle.kc_base.specs.Levels.{is_high}
use Rattle.kc_trace.specs.declared.life.Signal.{Signal}
use Rattle.kc_trace.specs.declared.life.What.{What}
use Rattle.kc_trace.specs.declared.life.What.TheVariants as whats
use Rattle.kc_trace.specs.Signals.{same_signal}
use Rattle.kc_rules.specs.declared.events.Way.{Way}
use Rattle.kc_rules.specs.declared.events.Way.TheVariants.{Rise, Fall, Either}
use Rattle.kc_rules.specs.declared.events.Wanted.{Wanted}
use Rattle.kc_rules.specs.declared.events.Wanted.TheVariants as wants
use Rattle.kc_rules.specs.declared.events.Steady.{Steady}
use Rattle.kc_rules.specs.declared.events.Atom.{Atom}

abbrev pub same_level : Level → Level → Bool
same_level Low Low = true
same_level High High = true
same_level _ _ = false

abbrev pub is_way : Way → Level → Bool
is_way Rise level = is_high level
is_way Fall level = not (is_high level)
is_way Either level = true

-- what happens, with its marks: for each mark whether it has it
abbrev pub is_wanted : Wanted → What → List Bool → Bool
is_wanted (wants.Mark mark) what marks = slice_index_or marks mark false
is_wanted (wants.Edge signal way) (whats.Edge other level) marks = same_signal signal other && is_way way level
is_wanted (wants.Entry n) (whats.Entry m) marks = n == m
is_wanted (wants.Transfer n) (whats.Transfer m) marks = n == m
is_wanted wants.Undefined whats.Undefined marks = true
is_wanted wants.Reset whats.Reset marks = true
is_wanted wants.Watchdog whats.Watchdog marks = true
is_wanted wants.Powerdown whats.Powerdown marks = true
is_wanted _ what marks = false

abbrev pub holds : (Signal → Level) → Steady → Bool
holds levels steady = same_level (levels steady.signal) steady.level

abbrev pub is_met : (Signal → Level) → Option Steady → Bool
is_met levels None = true
is_met levels (Some steady) = holds levels steady

abbrev pub is_atom : (Signal → Level) → What → List Bool → Atom → Bool
is_atom levels what marks atom = is_wanted atom.wanted what marks && is_met levels atom.condition

abbrev pub is_one : List Atom → What → List Bool → (Signal → Level) → Bool
is_one atoms what marks levels = list_any (is_atom levels what marks) atoms

-- an edge of a signal, and one to its level
abbrev pub is_edge : Signal → What → Bool
is_edge signal (whats.Edge other level) = same_signal signal other
is_edge signal _ = false

abbrev pub is_begin : Steady → What → Bool
is_begin steady (whats.Edge other level) = same_signal steady.signal other && same_level level steady.level
is_begin steady _ = false
