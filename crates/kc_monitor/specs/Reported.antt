-- A life that is reported state by state, and its moments (this kit's own).
use Rattle.std.specs.Prelude.{ℕ, ◌≤◌, List, [], ◌∷◌, map}
use Rattle.kc_base.specs.declared.types.Level.{Level}
use Rattle.kc_trace.specs.declared.life.Signal.{Signal}
use Rattle.kc_trace.specs.declared.life.What.{What}
use Rattle.kc_trace.specs.Lives.{Life, State, events_of, level_after}
use Rattle.kc_rules.specs.declared.mark.Mark.{Mark}
use Rattle.kc_monitor.specs.Marked.{Hit}
use Rattle.kc_monitor.specs.Rows.{seens_in, hists_over}
use Rattle.kc_monitor.specs.Watching.{Moment, moment}

abbrev pub life_of : (Signal → Level) → List State → ℕ → Life
life_of start states last = record { start = start; events = events_of states; last = last }

abbrev pub levels_after : (Signal → Level) → List What → Signal → Level
levels_after levels whats signal = level_after signal (levels signal) whats

-- the moments of these states, behind these levels and these positions of the marks
unfoldable pub moments_by : List Mark → List (List Hit) → (Signal → Level) → List State → List Moment
moments_by marks hists levels [] = []
moments_by marks hists levels (s ∷ states) =
    moment s.at (levels_after levels s.whats) (seens_in (levels_after levels s.whats) s.at marks hists s.whats)
    ∷ moments_by marks (hists_over (levels_after levels s.whats) s.at marks hists s.whats) (levels_after levels s.whats) states

-- no mark has seen anything
abbrev pub unseen : List Mark → List (List Hit)
unseen marks = map (λ m. []) marks

abbrev pub moments_of : List Mark → (Signal → Level) → List State → List Moment
moments_of marks start states = moments_by marks (unseen marks) start states

unfoldable pub AreStatesUpTo : ℕ → List State → Type 0
AreStatesUpTo last [] = Unit {0}
AreStatesUpTo last (s ∷ states) = (s.at ≤ last) × AreStatesUpTo last states
