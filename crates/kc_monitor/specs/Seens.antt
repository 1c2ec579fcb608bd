-- The positions of a life, each with the marks that it has (this kit's own). A mark may be one of the events of a later mark.
use Rattle.std.specs.Prelude.{ℕ, Bool, List, [], ◌∷◌, ◌++◌, map, fold}
use Rattle.kc_base.specs.declared.types.Level.{Level}
use Rattle.kc_trace.specs.declared.life.Signal.{Signal}
use Rattle.kc_trace.specs.declared.life.What.{What}
use Rattle.kc_trace.specs.Lives.{Life, level_at}
use Rattle.kc_rules.specs.declared.events.Atom.{Atom}
use Rattle.kc_rules.specs.declared.mark.Mark.{Mark}
use Rattle.kc_rules.specs.declared.mark.MarkForm.{MarkForm}
use Rattle.kc_rules.specs.declared.mark.MarkForm.TheVariants as forms
use Rattle.kc_monitor.specs.Matching.{is_one}
use Rattle.kc_monitor.specs.Marked.{Hit, quiet_for, quiet_share, every, counted_from}

pub record Seen : Type 0 where
  pub at : ℕ
  pub what : What
  -- for each mark, in order, whether it has it
  pub marks : List Bool

-- whether it is one of some events, at the levels at the end of its state
abbrev pub is_among : Life → List Atom → Seen → Bool
is_among life atoms s = is_one atoms s.what s.marks (λ signal. level_at life signal s.at)

-- what a mark sees of what happens in a state, by its events and those from which they are counted, at the levels at the end of the state
abbrev pub hit : (Signal → Level) → List Atom → List Atom → ℕ → What → List Bool → Hit
hit levels events from at what marks = record { at = at; event = is_one events what marks levels; from = is_one from what marks levels }

abbrev pub hit_at : (Signal → Level) → MarkForm → ℕ → What → List Bool → Hit
hit_at levels (forms.Same es) at what marks = hit levels es [] at what marks
hit_at levels (forms.QuietFor es least) at what marks = hit levels es [] at what marks
hit_at levels (forms.QuietShare es share) at what marks = hit levels es [] at what marks
hit_at levels (forms.Every k es) at what marks = hit levels es [] at what marks
hit_at levels (forms.From k es first) at what marks = hit levels es first at what marks

abbrev pub hit_of : Life → MarkForm → Seen → Hit
hit_of life form s = hit_at (λ signal. level_at life signal s.at) form s.at s.what s.marks

-- whether a position has a mark, by the positions before it, of which the latest is the first
abbrev pub is_marked : MarkForm → Hit → List Hit → Bool
is_marked (forms.Same es) h earlier = h.event
is_marked (forms.QuietFor es least) h earlier = quiet_for least h earlier
is_marked (forms.QuietShare es share) h earlier = quiet_share share h earlier
is_marked (forms.Every k es) h earlier = every k h earlier
is_marked (forms.From k es first) h earlier = counted_from k h earlier

unfoldable pub column : MarkForm → List Hit → List Hit → List Bool
column form earlier [] = []
column form earlier (h ∷ hits) = is_marked form h earlier ∷ column form (h ∷ earlier) hits

unfoldable pub with_column : List Seen → List Bool → List Seen
with_column [] marks = []
with_column (s ∷ seens) [] = s ∷ seens
with_column (s ∷ seens) (b ∷ marks) = record s { marks = s.marks ++ b ∷ [] } ∷ with_column seens marks

abbrev pub with_mark : Life → List Seen → Mark → List Seen
with_mark life seens m = with_column seens (column m.form [] (map (hit_of life m.form) seens))

abbrev pub unmarked : Life → List Seen
unmarked life = map (λ e. record { at = e.at; what = e.what; marks = [] }) life.events

unfoldable pub seens_of : List Mark → Life → List Seen
seens_of marks life = fold (with_mark life) (unmarked life) marks
