-- How all rules of a file go on together (this kit's own): before the first life, as a life begins, with a state, and as it ends.
use Rattle.std.specs.Prelude.{◌≡◌, ℕ, List, length, EachIndex, slice_index_or}
use Rattle.kc_base.specs.declared.types.Level.{Level}
use Rattle.kc_trace.specs.declared.life.Signal.{Signal}
use Rattle.kc_trace.specs.declared.life.What.{What}
use Rattle.kc_trace.specs.Lives.{level_after}
use Rattle.kc_trace.specs.Tables.{level_in}
use Rattle.kc_rules.specs.declared.mark.Mark.{Mark}
use Rattle.kc_rules.specs.declared.rule.Rule.{Rule}
use Rattle.kc_monitor_forms.specs.Tallies.{none}
use Rattle.kc_monitor.specs.declared.marks.Marking.{Marking}
use Rattle.kc_monitor.specs.declared.monitor.Monitor.{Monitor}
use Rattle.kc_monitor.specs.declared.watch.Watch.{Watch}
use Rattle.kc_monitor.specs.Marked.{Hit}
use Rattle.kc_monitor.specs.Marking.{fresh}
use Rattle.kc_monitor.specs.Rows.{seens_in, hists_over, IsTrack}
use Rattle.kc_monitor.specs.Watching.{AllThree, IsStart, IsStep, IsFinish}

-- no life has begun
abbrev pub IsUnbegun : Monitor → Type 0
IsUnbegun m = (m.life ≡ 0) × (m.tally ≡ none)

pub record IsNew (marks : List Mark) (rules : List Rule) (w : Watch) : Type 0 where
  pub marks_are : w.rules.marks ≡ marks
  pub rules_are : w.rules.rules ≡ rules
  pub markings : length w.markings.items ≡ length marks
  pub monitors : length w.monitors.items ≡ length rules
  pub unbegun : EachIndex w.monitors.items (λ k. (d : Monitor) → IsUnbegun (slice_index_or w.monitors.items k d))

pub record IsBegin (levels : Signal → Level) (v w : Watch) : Type 0 where
  pub rules : w.rules ≡ v.rules
  pub levels_are : (signal : Signal) → level_in w.levels signal ≡ levels signal
  pub many : length w.markings.items ≡ length v.markings.items
  pub markings : EachIndex w.markings.items (λ k. (d : Marking) → slice_index_or w.markings.items k d ≡ fresh)
  pub monitors : length v.rules.rules ≡ length v.monitors.items → AllThree (IsStart levels) v.rules.rules v.monitors.items w.monitors.items

pub record IsState (at : ℕ) (whats : List What) (v w : Watch) : Type 0 where
  pub rules : w.rules ≡ v.rules
  pub levels : (signal : Signal) → level_in w.levels signal ≡ level_after signal (level_in v.levels signal) whats
  pub markings : (hists : List (List Hit)) → AllThree IsTrack v.rules.marks hists v.markings.items →
      AllThree IsTrack v.rules.marks (hists_over (level_in w.levels) at v.rules.marks hists whats) w.markings.items
  pub monitors : (hists : List (List Hit)) → AllThree IsTrack v.rules.marks hists v.markings.items → length v.rules.rules ≡ length v.monitors.items →
      AllThree (IsStep at (level_in w.levels) (seens_in (level_in w.levels) at v.rules.marks hists whats)) v.rules.rules v.monitors.items w.monitors.items

pub record IsOver (last : ℕ) (v w : Watch) : Type 0 where
  pub rules : w.rules ≡ v.rules
  pub levels : w.levels ≡ v.levels
  pub many : length w.markings.items ≡ length v.markings.items
  pub monitors : length v.rules.rules ≡ length v.monitors.items → AllThree (IsFinish last) v.rules.rules v.monitors.items w.monitors.items
