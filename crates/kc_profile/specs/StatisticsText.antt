-- The text of the statistics of a run (this kit's own).
use Rattle.std.specs.Prelude.{ℕ, ◌+◌, ◌==◌, Bool, true, false, ◌||◌, not, if◌then◌else◌, List, [], ◌∷◌, ◌++◌, codes, decimal, Option, Some, None}
use Rattle.kc_trace.specs.Text.{hex}
use Rattle.kc_profile.specs.declared.spread.Moment.{Moment}
use Rattle.kc_profile.specs.declared.spread.Spread.{Spread}
use Rattle.kc_profile.specs.declared.statistics_text.Scope.{Scope}
use Rattle.kc_profile.specs.declared.statistics_text.Scope.TheVariants as scope
use Rattle.kc_profile.specs.declared.statistics.Depth.{Depth}
use Rattle.kc_profile.specs.declared.waits.Waits.{Waits}
use Rattle.kc_profile.specs.Text.{unless_none}
use Rattle.kc_profile.specs.Statistics.{Statistics}
use Rattle.kc_profile.specs.Waits.{is_reported}

abbrev pub behind : ℕ → List ℕ
behind number = codes " " ++ decimal number

-- over several lives the life stands with the state
abbrev pub when_text : Scope → Moment → List ℕ
when_text scope.Life when = behind when.at
when_text scope.Lives when = behind when.at ++ (codes " life" ++ behind when.life)

-- ---- instructions

abbrev pub hit_line : ℕ → ℕ → List ℕ
hit_line addr hits = codes "hit " ++ hex 4 addr ++ behind hits ++ codes "\n"

-- numbers of addresses, from one on
unfoldable pub hit_lines : ℕ → List ℕ → List ℕ
hit_lines addr [] = []
hit_lines addr (hits ∷ more) = unless_none hits (hit_line addr hits) ++ hit_lines (addr + 1) more

-- ---- requests, from one on

abbrev pub spread_line : List ℕ → ℕ → Scope → Option Spread → List ℕ
spread_line word n scope None = []
spread_line word n scope (Some s) = word ++ behind n ++ behind s.count ++ behind s.least ++ behind s.greatest ++ when_text scope s.when ++ codes "\n"

unfoldable pub latency_lines : ℕ → Scope → List Waits → List ℕ
latency_lines n scope [] = []
latency_lines n scope (w ∷ more) = spread_line (codes "latency") n scope w.latency ++ latency_lines (n + 1) scope more

unfoldable pub served_lines : ℕ → Scope → List Waits → List ℕ
served_lines n scope [] = []
served_lines n scope (w ∷ more) = spread_line (codes "served") n scope w.served ++ served_lines (n + 1) scope more

abbrev pub missed_line : ℕ → Waits → List ℕ
missed_line n w = if w.missed == 0 || not (is_reported w) then [] else codes "missed" ++ behind n ++ behind w.missed ++ codes "\n"

unfoldable pub missed_lines : ℕ → List Waits → List ℕ
missed_lines n [] = []
missed_lines n (w ∷ more) = missed_line n w ++ missed_lines (n + 1) more

-- ---- the stack

abbrev pub stack_line : Scope → Option Depth → List ℕ
stack_line scope None = []
stack_line scope (Some depth) = codes "stack " ++ hex 4 depth.word ++ when_text scope depth.when ++ codes "\n"

-- ---- the whole text

abbrev pub statistics_text : Scope → Statistics → List ℕ
statistics_text scope t =
    hit_lines 0 t.hits ++ latency_lines 0 scope t.waits ++ served_lines 0 scope t.waits ++ missed_lines 0 t.waits ++ stack_line scope t.deepest
