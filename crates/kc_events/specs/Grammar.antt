-- The grammar of traces: which lines the board prints one behind the other (this kit's own).
--
-- A run has lives; each but the last ends by a line B, the last by the line X. The lines of a life stand in the order of their
-- states, which count from its start. An edge changes the level of a pin that is printed. An undefined use is followed by the
-- end of the run, in its state. Behind X stand the program counter, PSW, WSR and the 16 rows of the register file, or the first
-- of these. No line stands behind state 10^15 of the run.
use Rattle.std.specs.Prelude.{◌≡◌, ℕ, ◌+◌, ◌-◌, ◌*◌, ◌==◌, nat_le, nat_lt, if◌then◌else◌, Bool, true, false, not, ◌&&◌, List, [], ◌∷◌}
use Rattle.kc_base.specs.Limits.{max_states}
use Rattle.kc_base.specs.declared.types.Level.{Level}
use Rattle.kc_base.specs.Levels.{is_high}
use Rattle.kc_trace.specs.declared.life.Signal.TheVariants.{Output}
use Rattle.kc_base.specs.Pins.{is_printed}
use Rattle.kc_trace.specs.Signals.{start_level}
use Rattle.kc_trace.specs.declared.record.Record.{Record}
use Rattle.kc_trace.specs.declared.record.Record.TheVariants.{Pin, Entered, Served, Undef, Stopped, Pc, Psw, Wsr, Registers}
use Rattle.kc_events.specs.declared.line.Line.{Line}
use Rattle.kc_events.specs.declared.line.Line.TheVariants.{Printed, Restarted}
use Rattle.kc_events.specs.declared.reader.Stage.{Stage}
use Rattle.kc_events.specs.declared.reader.Stage.TheVariants.{Living, Broken, Over}
use Rattle.kc_events.specs.Lines.{IsSoundLine}

-- Where a line stands: the state of the run in which its life began, how many states of the life are past with the line before it
-- (with none, 0), the levels of the printed pins, and whether the life goes on, ends by an undefined use, or has ended.
pub record Place : Type 0 where
  pub base : ℕ
  pub past : ℕ
  pub levels : ℕ → Level
  pub stage : Stage

-- a life begins
abbrev pub start_place : ℕ → Place
start_place base = record { base = base; past = 0; levels = λ pin. start_level (Output (record { 0 = pin })); stage = Living }

-- ---- which line may come

abbrev pub same_level : Level → Level → Bool
same_level a b = if is_high a then is_high b else not (is_high b)

-- no earlier than the line before it
abbrev pub is_in_order : Place → ℕ → Bool
is_in_order p at = nat_le p.past (at + 1) && nat_le (p.base + at) max_states

-- a run that is spent has printed nothing in the state of this number, which it has not seen
abbrev pub is_end : Place → ℕ → ℕ → Bool
is_end p at how = if how == 0 then nat_le p.past at && nat_le (p.base + at) max_states else nat_lt how 3 && is_in_order p at

abbrev pub is_of_life : Place → Record → Bool
is_of_life p (Pin at edge) = is_in_order p at && (is_printed edge.pin.0 && not (same_level edge.level (p.levels edge.pin.0)))
is_of_life p (Entered at vector back) = is_in_order p at
is_of_life p (Served at vector mode count) = is_in_order p at
is_of_life p (Undef what) = is_in_order p what.at
is_of_life p (Stopped at how) = is_end p at how
is_of_life p _ = false

-- the end by an undefined use
abbrev pub is_break : ℕ → Record → Bool
is_break at (Stopped t how) = (how == 3) && (t == at)
is_break at _ = false

-- the line of this number behind the end
abbrev pub is_final : ℕ → Record → Bool
is_final n (Pc value) = n == 0
is_final n (Psw value) = n == 1
is_final n (Wsr value) = n == 2
is_final n (Registers base bytes) = nat_le 3 n && (nat_lt n 19 && (base == 32 * (n - 3)))
is_final n _ = false

abbrev pub may_print : Place → Stage → Record → Bool
may_print p Living item = is_of_life p item
may_print p (Broken at) item = is_break at item
may_print p (Over n) item = is_final n item

-- a life that another one follows
abbrev pub may_restart : Place → Stage → ℕ → Bool
may_restart p Living at = is_in_order p at
may_restart p _ at = false

abbrev pub may_follow : Place → Line → Bool
may_follow p (Printed item) = may_print p p.stage item
may_follow p (Restarted at by_watchdog) = may_restart p p.stage at

-- ---- where the next line stands

abbrev pub moved_to : ℕ → Level → (ℕ → Level) → ℕ → Level
moved_to pin level levels other = if other == pin then level else levels other

-- one more line behind the end
abbrev pub next_stage : Stage → Stage
next_stage (Over n) = Over (n + 1)
next_stage _ = Over 0

abbrev pub after_record : Place → Record → Place
after_record p (Pin at edge) = record p { past = at + 1; levels = moved_to edge.pin.0 edge.level p.levels }
after_record p (Entered at vector back) = record p { past = at + 1 }
after_record p (Served at vector mode count) = record p { past = at + 1 }
after_record p (Undef what) = record p { past = what.at + 1; stage = Broken what.at }
after_record p _ = record p { stage = next_stage p.stage }

abbrev pub after_line : Place → Line → Place
after_line p (Printed item) = after_record p item
after_line p (Restarted at by_watchdog) = start_place (p.base + at + 1)

-- ---- traces

pub record MayFollow (p : Place) (line : Line) : Type 0 where
  pub sound : IsSoundLine line
  pub fits : may_follow p line ≡ true

-- lines that may come one behind the other
unfoldable pub AreLines : Place → List Line → Type 0
AreLines p [] = Unit {0}
AreLines p (line ∷ lines) = MayFollow p line × AreLines (after_line p line) lines

unfoldable pub place_after : Place → List Line → Place
place_after p [] = p
place_after p (line ∷ lines) = place_after (after_line p line) lines

abbrev pub is_over : Stage → Bool
is_over (Over n) = true
is_over _ = false

-- the lines of a run from a place on, to its end
pub record IsRun (p : Place) (lines : List Line) : Type 0 where
  pub follow : AreLines p lines
  pub whole : is_over (place_after p lines).stage ≡ true
