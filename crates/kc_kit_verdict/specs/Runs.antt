-- What the rules of a file say of a run (this kit's own): the verdict of each over the lives of the run, and of each broken one its line.
use Rattle.std.specs.Prelude.{ℕ, ◌+◌, Bool, true, false, List, [], ◌∷◌, filter, flat_map, length}
use Rattle.kc_trace.specs.Lives.{Life}
use Rattle.kc_rules.specs.declared.rule.Rule.{Rule}
use Rattle.kc_rules.specs.Lines.{Book}
use Rattle.kc_events.specs.declared.line.Line.{Line}
use Rattle.kc_events.specs.declared.line.Line.TheVariants.{Printed, Restarted}
use Rattle.kc_monitor_forms.specs.declared.tally.Tally.{Tally}
use Rattle.kc_monitor.specs.Verdicts.{tally_of, verdict_of, is_broken}
use Rattle.kc_kit_messages.specs.Diagnostics.{broken_diagnostic}
use Rattle.kc_kit_files.specs.declared.status.Status.{Status}
use Rattle.kc_kit_files.specs.declared.status.Status.TheVariants as status
use Rattle.kc_kit_files.specs.Response.{Response, reports}

-- each life but the last ends by a line of its own
abbrev pub is_restart : Line → Bool
is_restart (Restarted at by_watchdog) = true
is_restart (Printed item) = false

abbrev pub count_lives : List Line → ℕ
count_lives lines = length (filter is_restart lines) + 1

-- what became of what a rule has asked in all lives
abbrev pub tally_in : Book → List Life → Rule → Tally
tally_in book lives rule = tally_of book.marks rule lives

-- the verdicts of the rules, in the order of their lines
abbrev pub verdicts : Book → ℕ → List Life → List ℕ
verdicts book count lives = flat_map (λ rule. verdict_of rule count (tally_in book lives rule)) book.rules

abbrev pub broken_in : Book → List Life → List Rule
broken_in book lives = filter (λ rule. is_broken rule (tally_in book lives rule)) book.rules

-- of each broken rule its line is said, by the name and the text of the file
abbrev pub diagnostics : List ℕ → List ℕ → List Rule → List ℕ
diagnostics name text broken = flat_map (λ rule. broken_diagnostic name text rule.line) broken

-- what was asked is so where no rule is broken
abbrev pub status_by : List Rule → Status
status_by [] = status.Done
status_by (rule ∷ rules) = status.Broken

-- the verdicts are printed, and of each broken rule its line is said
abbrev pub verdict_response : List ℕ → List ℕ → Book → ℕ → List Life → Response
verdict_response name text book count lives =
    reports (status_by (broken_in book lives)) (verdicts book count lives) (diagnostics name text (broken_in book lives))
