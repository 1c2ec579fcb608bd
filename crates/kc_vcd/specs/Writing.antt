-- A dump that is written step by step (this kit's own).
use Rattle.std.specs.Prelude.{◌≡◌, ℕ, Bool, true, List, ◌++◌}
use Rattle.kc_trace.specs.declared.levels.Levels.{Levels}
use Rattle.kc_trace.specs.Tables.{level_in}
use Rattle.kc_convert.specs.declared.sample.Sample.{Sample}
use Rattle.kc_events.specs.Steps.{Seen}
use Rattle.kc_vcd.specs.declared.variable.Variable.{Variable}
use Rattle.kc_vcd.specs.Changes.{Timed, changes_by, end_by}
use Rattle.kc_vcd.specs.Dump.{Shown, timed_to, texts, prefix}

-- what a dump shows, with the levels before state 0 in a table
pub record Kept : Type 0 where
  pub variables : List Variable
  pub start : Levels
  pub samples : List Sample
  pub length : ℕ

abbrev pub shown_in : Kept → Shown
shown_in kept = record { variables = kept.variables; start = level_in kept.start; samples = kept.samples; length = kept.length }

-- What is shown, the text so far, the state of the run that was stamped last, the one in which the life began, whether the next life
-- is the first, the levels at the end of the last state, and the values that are to come.
pub record Written : Type 0 where
  pub shown : Kept
  pub text : List ℕ
  pub stamped : ℕ
  pub base : ℕ
  pub first : Bool
  pub levels : Levels
  pub samples : List Sample

-- the dump, where these changes are to come, and this is the end of the run
abbrev pub with_changes : Written → ℕ → List Timed → List ℕ
with_changes w end changes = w.text ++ texts w.shown.length w.stamped (timed_to w.samples end changes)

-- the dump, where these steps are to come
abbrev pub with_steps : Written → List Seen → List ℕ
with_steps w steps = with_changes w (end_by w.base steps) (changes_by w.shown.variables w.first w.base (level_in w.levels) steps)

-- nothing is reported yet
abbrev pub start_of : Kept → Written
start_of shown = record {
  shown = shown;
  text = prefix (shown_in shown);
  stamped = 0;
  base = 0;
  first = true;
  levels = shown.start;
  samples = shown.samples;
}

-- these changes were put
abbrev pub HasPut : Written → List Timed → Written → Type 0
HasPut old changes new =
    (more : List Timed) → new.text ++ texts new.shown.length new.stamped more ≡ old.text ++ texts old.shown.length old.stamped (changes ++ more)

-- these steps were reported
abbrev pub HasReported : Written → List Seen → Written → Type 0
HasReported old steps new = (more : List Seen) → with_steps new more ≡ with_steps old (steps ++ more)

-- these changes came, with the values up to them
abbrev pub HasChanged : Written → List Timed → Written → Type 0
HasChanged old changes new = (end : ℕ) (more : List Timed) → with_changes new end more ≡ with_changes old end (changes ++ more)

-- it goes on with the same life
pub record IsSameLife (old new : Written) : Type 0 where
  pub shown : new.shown ≡ old.shown
  pub base : new.base ≡ old.base
  pub first : new.first ≡ old.first
  pub levels : new.levels ≡ old.levels
