-- The verdict of a run that a source gives (this kit's own).
use Rattle.std.specs.Prelude.{◌≡◌, ℕ, ◌++◌, if◌then◌else◌, Bool, true, false, Option, Result, Ok, Err, List, [], ◌∷◌}
use Rattle.kc_stim.specs.Drives.{Drives}
use Rattle.kc_rules.specs.declared.rule.Rule.{Rule}
use Rattle.kc_rules.specs.Lines.{Book}
use Rattle.kc_events.specs.declared.line.Line.{Line}
use Rattle.kc_events.specs.declared.lives.LivesFault.{LivesFault}
use Rattle.kc_events.specs.declared.lives.LivesFault.TheVariants.{NoMemory}
use Rattle.kc_events.specs.Lives.{lives_of}
use Rattle.kc_events.specs.Reporting.{IsRunAnswer}
use Rattle.kc_monitor.specs.declared.monitor.Monitor.{Monitor}
use Rattle.kc_monitor.specs.Verdicts.{verdict_of, is_broken}
use Rattle.kc_monitor_forms.specs.declared.tally.Tally.{Tally}
use Rattle.kc_kit_messages.specs.Diagnostics.{broken_diagnostic}
use Rattle.kc_kit_verdict.specs.declared.verdict.Verdict.{Verdict}
use Rattle.kc_kit_verdict.specs.Runs.{count_lives, verdicts, broken_in, diagnostics}

abbrev pub is_any : List Rule → Bool
is_any [] = false
is_any (rule ∷ rules) = true

-- ---- of a run

-- the verdict of the rules of a file, by its name and its text, over the lives of these lines
pub record IsVerdictOf (name text : List ℕ) (book : Book) (drives : Drives) (lines : List Line) (verdict : Verdict) : Type 0 where
  pub printed : verdict.text.items ≡ verdicts book (count_lives lines) (lives_of drives lines)
  pub said : verdict.diagnostic.items ≡ diagnostics name text (broken_in book (lives_of drives lines))
  pub broken : verdict.is_broken ≡ is_any (broken_in book (lives_of drives lines))

-- of a text, where the source reports it: the verdict of its run, or the first line that no board prints there
abbrev pub IsChecked : List ℕ → List ℕ → Book → Drives → Option (List ℕ) → Result Verdict LivesFault → Type 0
IsChecked name text book drives left result = IsRunAnswer (λ verdict lines. IsVerdictOf name text book drives lines verdict) left result

-- what is given where rules were to watch a run: a verdict, or memory ran out; or the fault that has ended it
abbrev pub IsPassedOn : {A : Type 0} → Result A LivesFault → (Verdict → Type 0) → Result Verdict LivesFault → Type 0
IsPassedOn (Ok done) P (Ok verdict) = P verdict
IsPassedOn (Ok done) P (Err fault) = fault ≡ NoMemory
IsPassedOn (Err fault) P result = result ≡ Err fault

-- ---- of rules, each with its monitor

unfoldable pub verdicts_by : List Rule → List Monitor → List ℕ
verdicts_by [] monitors = []
verdicts_by (rule ∷ rules) [] = []
verdicts_by (rule ∷ rules) (m ∷ monitors) = verdict_of rule m.life m.tally ++ verdicts_by rules monitors

unfoldable pub broken_by : List Rule → List Monitor → List Rule
broken_by [] monitors = []
broken_by (rule ∷ rules) [] = []
broken_by (rule ∷ rules) (m ∷ monitors) = if is_broken rule m.tally then rule ∷ broken_by rules monitors else broken_by rules monitors

pub record IsVerdict (name text : List ℕ) (rules : List Rule) (monitors : List Monitor) (verdict : Verdict) : Type 0 where
  pub printed : verdict.text.items ≡ verdicts_by rules monitors
  pub said : verdict.diagnostic.items ≡ diagnostics name text (broken_by rules monitors)
  pub broken : verdict.is_broken ≡ is_any (broken_by rules monitors)

-- what is said of a rule, if anything is
abbrev pub said_of : List ℕ → List ℕ → Rule → Tally → List ℕ
said_of name text rule tally = if is_broken rule tally then broken_diagnostic name text rule.line else []
