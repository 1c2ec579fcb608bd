-- How the rules of a file watch a run step by step, and what they have seen of it then (this kit's own).
use Rattle.std.specs.Prelude.{◌≡◌, ℕ, List, [], ◌∷◌}
use Rattle.kc_trace.specs.Lives.{Life}
use Rattle.kc_stim.specs.Drives.{Drives}
use Rattle.kc_rules.specs.declared.rule.Rule.{Rule}
use Rattle.kc_rules.specs.Lines.{Book}
use Rattle.kc_events.specs.declared.line.Line.{Line}
use Rattle.kc_events.specs.Grammar.{start_place, IsRun}
use Rattle.kc_events.specs.Lives.{lives_of}
use Rattle.kc_events.specs.Steps.{Seen, Begins, Passes, Ends, steps_of}
use Rattle.kc_monitor.specs.declared.monitor.Monitor.{Monitor}
use Rattle.kc_monitor.specs.declared.watch.Watch.{Watch}
use Rattle.kc_monitor.specs.Watches.{IsNew, IsBegin, IsState, IsOver}
use Rattle.kc_kit_verdict.specs.Runs.{count_lives, tally_in}

-- the rules have seen this step
abbrev pub IsWatched : Watch → Seen → Watch → Type 0
IsWatched v (Begins levels) w = IsBegin levels v w
IsWatched v (Passes state) w = IsState state.at state.whats v w
IsWatched v (Ends last) w = IsOver last v w

-- and these, one after the other
unfoldable pub HasWatched : Watch → List Seen → Watch → Type 0
HasWatched v [] w = w ≡ v
HasWatched v (step ∷ steps) w = (u : Watch) × IsWatched v step u × HasWatched u steps w

-- each rule has a monitor, which has counted these lives, and has what became of all that the rule asks of them
unfoldable pub HaveSeen : Book → ℕ → List Life → List Rule → List Monitor → Type 0
HaveSeen book count lives [] monitors = Unit {0}
HaveSeen book count lives (rule ∷ rules) [] = ⊥
HaveSeen book count lives (rule ∷ rules) (m ∷ monitors) =
    (m.life ≡ count) × (m.tally ≡ tally_in book lives rule) × HaveSeen book count lives rules monitors

-- the law: rules that have watched the steps of a run have seen its lives
abbrev pub RunsAreSeen : Type 0
RunsAreSeen =
    (book : Book) (drives : Drives) (lines : List Line) (v w : Watch)
    → IsRun (start_place 0) lines → IsNew book.marks book.rules v → HasWatched v (steps_of drives lines) w
    → HaveSeen book (count_lives lines) (lives_of drives lines) book.rules w.monitors.items
