-- What a reader keeps of a trace.
use Rattle.std.specs.Prelude.{ℕ, nat_le, if◌then◌else◌, Bool, true}
use Rattle.kc_base.specs.declared.types.Level.{Level}
use Rattle.kc_base.specs.declared.types.Level.TheVariants.{Low}
use Rattle.kc_trace.specs.declared.life.Signal.TheVariants.{Output}
use Rattle.kc_trace.specs.declared.levels.Levels.{Levels}
use Rattle.kc_base.specs.Pins.{is_printed}
use Rattle.kc_trace.specs.Tables.{level_in}
use Rattle.kc_events.specs.declared.reader.Stage.{Stage}
use Rattle.kc_events.specs.declared.reader.Stage.TheVariants.{Over}
use Rattle.kc_events.specs.Grammar.{Place}

-- where the next line stands, with the levels in a table
pub record Kept : Type 0 where
  pub base : ℕ
  pub past : ℕ
  pub levels : Levels
  pub stage : Stage

-- the levels of the printed pins; others have none
abbrev pub printed_levels : Levels → ℕ → Level
printed_levels levels pin = if is_printed pin then level_in levels (Output (record { 0 = pin })) else Low

abbrev pub place_in : Kept → Place
place_in kept = record { base = kept.base; past = kept.past; levels = printed_levels kept.levels; stage = kept.stage }

-- at most so many lines stand behind the end
abbrev pub is_short : ℕ → Stage → Bool
is_short most (Over n) = nat_le n most
is_short most _ = true
