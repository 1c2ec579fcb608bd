-- Which marks things have, in the order in which they happen (this kit's own): by the positions before them, of which each mark keeps
-- those that it has seen, the latest first.
use Rattle.std.specs.Prelude.{ℕ, Bool, List, [], ◌∷◌, ◌++◌}
use Rattle.kc_base.specs.declared.types.Level.{Level}
use Rattle.kc_trace.specs.declared.life.Signal.{Signal}
use Rattle.kc_trace.specs.declared.life.What.{What}
use Rattle.kc_rules.specs.declared.mark.Mark.{Mark}
use Rattle.kc_monitor.specs.declared.marks.Marking.{Marking}
use Rattle.kc_monitor.specs.Marked.{Hit}
use Rattle.kc_monitor.specs.Seens.{Seen, hit_at, is_marked}
use Rattle.kc_monitor.specs.Marking.{IsKept}

-- which marks something has, behind those that are reported
unfoldable pub row : (Signal → Level) → ℕ → What → List Mark → List (List Hit) → List Bool → List Bool
row levels at what [] hists has = has
row levels at what (m ∷ marks) [] has = has
row levels at what (m ∷ marks) (h ∷ hists) has =
    row levels at what marks hists (has ++ is_marked m.form (hit_at levels m.form at what has) h ∷ [])

unfoldable pub hists_after : (Signal → Level) → ℕ → What → List Mark → List (List Hit) → List Bool → List (List Hit)
hists_after levels at what [] hists has = []
hists_after levels at what (m ∷ marks) [] has = []
hists_after levels at what (m ∷ marks) (h ∷ hists) has =
    (hit_at levels m.form at what has ∷ h) ∷ hists_after levels at what marks hists (has ++ is_marked m.form (hit_at levels m.form at what has) h ∷ [])

-- ---- what happens in a state

abbrev pub seen_now : (Signal → Level) → ℕ → List Mark → List (List Hit) → What → Seen
seen_now levels at marks hists what = record { at = at; what = what; marks = row levels at what marks hists [] }

unfoldable pub seens_in : (Signal → Level) → ℕ → List Mark → List (List Hit) → List What → List Seen
seens_in levels at marks hists [] = []
seens_in levels at marks hists (w ∷ whats) = seen_now levels at marks hists w ∷ seens_in levels at marks (hists_after levels at w marks hists []) whats

unfoldable pub hists_over : (Signal → Level) → ℕ → List Mark → List (List Hit) → List What → List (List Hit)
hists_over levels at marks hists [] = hists
hists_over levels at marks hists (w ∷ whats) = hists_over levels at marks (hists_after levels at w marks hists []) whats

abbrev pub IsTrack : Mark → List Hit → Marking → Type 0
IsTrack m earlier marking = IsKept m.form earlier marking
