-- The levels, the marks and the points of a life are those of its moments.
use Rattle.std.proofs.Common.{◌≡◌, ℕ, ◌+◌, ◌<◌, ◌≤◌, min, false, cond, ◌||◌, leb, ltb, List, [], ◌∷◌, ◌++◌, Option, Some, None, refl, sym, ap, subst, ◌∙◌, inl, inr, arith}
use Rattle.std.specs.Prelude.{filter, map, flat_map, fold, if◌then◌else◌}
use Rattle.std.proofs.lemmas.Bool.{cases_Bool, cond-true, cond-false, le-leb, lt-leb}
use Rattle.std.proofs.lemmas.List.{map-append}
use Rattle.std.proofs.lemmas.List.Sums.{fold-append}
use Rattle.std.proofs.lemmas.List.Elements.{filter-append}
use Rattle.kc_base.specs.Series.{up_to}
use Rattle.kc_base.specs.declared.types.Level.{Level}
use Rattle.kc_trace.specs.declared.life.Signal.{Signal}
use Rattle.kc_trace.specs.declared.life.What.{What}
use Rattle.kc_trace.specs.declared.life.Event.{Event}
use Rattle.kc_trace.specs.Lives.{Life, State, events_in, events_of, AreStatesFrom, level_after, level_at, moved_by}
use Rattle.kc_rules.specs.declared.events.Atom.{Atom}
use Rattle.kc_rules.specs.declared.mark.Mark.{Mark}
use Rattle.kc_rules.specs.declared.rule.Form.{Form}
use Rattle.kc_rules.specs.declared.rule.Form.TheVariants as forms
use Rattle.kc_rules.specs.declared.rule.When.{When}
use Rattle.kc_rules.specs.declared.rule.When.TheVariants as whens
use Rattle.kc_monitor.specs.Matching.{is_one, holds}
use Rattle.kc_monitor.specs.Marked.{Hit}
use Rattle.kc_monitor.specs.Seens.{Seen, is_among, hit_of, is_marked, column, with_column, with_mark, unmarked, seens_of}
use Rattle.kc_rules.specs.declared.rule.Rule.{Rule}
use Rattle.kc_monitor.specs.Rules.{first_state, first_of, end_of, or_end, is_between, point_at, point_of, times_one, times_other, asked, obligations, asked_in as asked_life, asked_of as obligations_in}
use Rattle.kc_monitor.specs.Rows.{row, hists_after, seen_now, seens_in, hists_over}
use Rattle.kc_monitor.specs.Watching.{Moment, AreMomentsFrom, is_any, comes, first_moment, first_in, first_by, end_in, points_at, one_at, other_at, AreKept, AreNow}
use Rattle.kc_monitor.specs.Runs.{AreFitting, AreUpTo, asked_of, asked_in as asked_moments}
use Rattle.kc_monitor.specs.Reported.{AreStatesUpTo, life_of, levels_after, moments_by, unseen, moments_of}
use Rattle.kc_monitor.proofs.WatchLemmas.{first_none}

-- ---- levels

abbrev Levels : Type 0
Levels = Signal → Level

-- the levels at the end of a state, behind these levels
abbrev pub prefix : Levels → List State → ℕ → Levels
prefix levels states t signal = level_after signal (levels signal) (map (λ e. e.what) (up_to (λ e. e.at) t (events_of states)))

up_in : (at t : ℕ) (whats : List What) → at ≤ t → up_to (λ e. e.at) t (events_in at whats) ≡ events_in at whats
up_in at t [] le = refl
up_in at t (w ∷ whats) le = rw (le-leb at t le) (ap (λ es. record { at = at; what = w } ∷ es) (up_in at t whats le))

up_none : (at t : ℕ) (whats : List What) → t < at → up_to (λ e. e.at) t (events_in at whats) ≡ []
up_none at t [] less = refl
up_none at t (w ∷ whats) less = rw (lt-leb at t less) (up_none at t whats less)

whats_in : (at : ℕ) (whats : List What) → map (λ e. e.what) (events_in at whats) ≡ whats
whats_in at [] = refl
whats_in at (w ∷ whats) = ap (λ ws. w ∷ ws) (whats_in at whats)

up_before : (t next : ℕ) (states : List State) → t < next → AreStatesFrom next states → up_to (λ e. e.at) t (events_of states) ≡ []
unfolding AreStatesFrom
up_before t next [] less order = refl
up_before t next (s ∷ states) less order =
    let here : t < s.at = omega (arith, order.0) in
    let later : t < s.at + 1 = omega arith in
    filter-append (λ e. leb e.at t) (events_in s.at s.whats) (events_of states)
    ∙ ap (λ es. es ++ up_to (λ e. e.at) t (events_of states)) (up_none s.at t s.whats here)
    ∙ up_before t (s.at + 1) states later order.1

-- behind a state
prefix_behind : (levels : Levels) (s : State) (states : List State) (t : ℕ) (signal : Signal) → s.at ≤ t →
    prefix levels (s ∷ states) t signal ≡ prefix (levels_after levels s.whats) states t signal
prefix_behind levels s states t signal le =
    ap (λ es. level_after signal (levels signal) (map (λ e. e.what) es))
    (filter-append (λ e. leb e.at t) (events_in s.at s.whats) (events_of states) ∙ ap (λ es. es ++ up_to (λ e. e.at) t (events_of states)) (up_in s.at t s.whats le))
    ∙ ap (λ ws. level_after signal (levels signal) ws)
    (map-append (λ e. e.what) (events_in s.at s.whats) (up_to (λ e. e.at) t (events_of states))
    ∙ ap (λ ws. ws ++ map (λ e. e.what) (up_to (λ e. e.at) t (events_of states))) (whats_in s.at s.whats))
    ∙ fold-append (moved_by signal) (levels signal) s.whats (map (λ e. e.what) (up_to (λ e. e.at) t (events_of states)))

prefix_before : (levels : Levels) (states : List State) (t next : ℕ) (signal : Signal) → t < next → AreStatesFrom next states → prefix levels states t signal ≡ levels signal
prefix_before levels states t next signal less order = ap (λ es. level_after signal (levels signal) (map (λ e. e.what) es)) (up_before t next states less order)

-- these levels are those of a prefix from a state on
abbrev pub Agrees : (ℕ → Levels) → Levels → List State → ℕ → Type 0
Agrees all levels states next = (t : ℕ) → next ≤ t → all t ≡ prefix levels states t

agrees_now : (all : ℕ → Levels) (levels : Levels) (s : State) (states : List State) (next : ℕ) → next ≤ s.at → AreStatesFrom (s.at + 1) states → Agrees all levels (s ∷ states) next →
    all s.at ≡ levels_after levels s.whats
agrees_now all levels s states next le order agrees =
    agrees s.at le
    ∙ (λ i signal. (prefix_behind levels s states s.at signal (omega arith) ∙ prefix_before (levels_after levels s.whats) states s.at (s.at + 1) signal (omega arith) order) i)

agrees_next : (all : ℕ → Levels) (levels : Levels) (s : State) (states : List State) (next : ℕ) → next ≤ s.at → Agrees all levels (s ∷ states) next →
    Agrees all (levels_after levels s.whats) states (s.at + 1)
agrees_next all levels s states next le agrees = λ t from.
    let later : next ≤ t = omega arith in
    let here : s.at ≤ t = omega arith in
    agrees t later ∙ (λ i signal. prefix_behind levels s states t signal here i)

agrees_before : (all : ℕ → Levels) (levels : Levels) (states : List State) (next t end : ℕ) → next ≤ t → t < end → AreStatesFrom end states → Agrees all levels states next → all t ≡ levels
agrees_before all levels states next t end from to order agrees =
    agrees t from ∙ (λ i signal. prefix_before levels states t end signal to order i)

-- ---- marks, row by row

unfoldable rows_from : (ℕ → Levels) → List Mark → List (List Hit) → List Seen → List Seen
rows_from all marks hists [] = []
rows_from all marks hists (s ∷ seens) =
    record s { marks = row (all s.at) s.at s.what marks hists s.marks } ∷ rows_from all marks (hists_after (all s.at) s.at s.what marks hists s.marks) seens

rows_none : (all : ℕ → Levels) (seens : List Seen) → rows_from all [] [] seens ≡ seens
unfolding rows_from row hists_after
rows_none all [] = refl
rows_none all (s ∷ seens) = ap (λ ss. s ∷ ss) (rows_none all seens)

rows_column : (life : Life) (m : Mark) (marks : List Mark) (h : List Hit) (hists : List (List Hit)) (seens : List Seen) →
    rows_from (λ t signal. level_at life signal t) marks hists (with_column seens (column m.form h (map (hit_of life m.form) seens)))
    ≡ rows_from (λ t signal. level_at life signal t) (m ∷ marks) (h ∷ hists) seens
unfolding rows_from row hists_after with_column column
rows_column life m marks h hists [] = refl
rows_column life m marks h hists (s ∷ seens) =
    let has = s.marks ++ is_marked m.form (hit_of life m.form s) h ∷ [] in
    ap (λ ss. record s { marks = row (λ signal. level_at life signal s.at) s.at s.what marks hists has } ∷ ss)
    (rows_column life m marks (hit_of life m.form s ∷ h) (hists_after (λ signal. level_at life signal s.at) s.at s.what marks hists has) seens)

rows_marks : (life : Life) (marks : List Mark) (seens : List Seen) →
    fold (with_mark life) seens marks ≡ rows_from (λ t signal. level_at life signal t) marks (unseen marks) seens
rows_marks life [] seens = sym (rows_none (λ t signal. level_at life signal t) seens)
rows_marks life (m ∷ marks) seens = rows_marks life marks (with_mark life seens m) ∙ rows_column life m marks [] (unseen marks) seens

-- ---- what happens in a state

abbrev bare : Event → Seen
bare e = record { at = e.at; what = e.what; marks = [] }

rows_state : (all : ℕ → Levels) (marks : List Mark) (hists : List (List Hit)) (at : ℕ) (whats : List What) (rest : List Seen) →
    rows_from all marks hists (map bare (events_in at whats) ++ rest)
    ≡ seens_in (all at) at marks hists whats ++ rows_from all marks (hists_over (all at) at marks hists whats) rest
unfolding rows_from seens_in hists_over
rows_state all marks hists at [] rest = refl
rows_state all marks hists at (w ∷ whats) rest =
    ap (λ ss. seen_now (all at) at marks hists w ∷ ss) (rows_state all marks (hists_after (all at) at w marks hists []) at whats rest)

rows_states : (all : ℕ → Levels) (marks : List Mark) (hists : List (List Hit)) (levels : Levels) (states : List State) (next : ℕ) → AreStatesFrom next states →
    Agrees all levels states next → rows_from all marks hists (map bare (events_of states)) ≡ flat_map (λ m. m.seens) (moments_by marks hists levels states)
unfolding AreStatesFrom rows_from moments_by
rows_states all marks hists levels [] next order agrees = refl
rows_states all marks hists levels (s ∷ states) next order agrees =
    let now = agrees_now all levels s states next order.0 order.1 agrees in
    let after = levels_after levels s.whats in
    ap (λ ss. rows_from all marks hists ss) (map-append bare (events_in s.at s.whats) (events_of states))
    ∙ rows_state all marks hists s.at s.whats (map bare (events_of states))
    ∙ (λ i. seens_in (now i) s.at marks hists s.whats ++ rows_from all marks (hists_over (now i) s.at marks hists s.whats) (map bare (events_of states)))
    ∙ ap (λ ss. seens_in after s.at marks hists s.whats ++ ss)
    (rows_states all marks (hists_over after s.at marks hists s.whats) after states (s.at + 1) order.1 (agrees_next all levels s states next order.0 agrees))

pub seens_reported : (marks : List Mark) (start : Levels) (states : List State) (last : ℕ) → AreStatesFrom 0 states →
    seens_of marks (life_of start states last) ≡ flat_map (λ m. m.seens) (moments_of marks start states)
unfolding seens_of
seens_reported marks start states last order =
    let life = life_of start states last in
    rows_marks life marks (unmarked life)
    ∙ rows_states (λ t signal. level_at life signal t) marks (unseen marks) start states 0 order (λ t from. refl)

-- ---- each moment has the levels at the end of its state

unfoldable AreAt : ℕ → List Seen → Type 0
AreAt at [] = Unit {0}
AreAt at (s ∷ seens) = (s.at ≡ at) × AreAt at seens

unfoldable AreAgreed : (ℕ → Levels) → List Moment → Type 0
AreAgreed all [] = Unit {0}
AreAgreed all (mo ∷ moments) = (all mo.at ≡ mo.levels) × AreAt mo.at mo.seens × AreAgreed all moments

seens_at : (levels : Levels) (at : ℕ) (marks : List Mark) (hists : List (List Hit)) (whats : List What) → AreAt at (seens_in levels at marks hists whats)
unfolding AreAt seens_in
seens_at levels at marks hists [] = tt
seens_at levels at marks hists (w ∷ whats) = (refl, seens_at levels at marks (hists_after levels at w marks hists []) whats)

moments_agree : (all : ℕ → Levels) (marks : List Mark) (hists : List (List Hit)) (levels : Levels) (states : List State) (next : ℕ) → AreStatesFrom next states →
    Agrees all levels states next → AreAgreed all (moments_by marks hists levels states)
unfolding AreStatesFrom AreAgreed moments_by
moments_agree all marks hists levels [] next order agrees = tt
moments_agree all marks hists levels (s ∷ states) next order agrees =
    let after = levels_after levels s.whats in (
      agrees_now all levels s states next order.0 order.1 agrees,
      seens_at after s.at marks hists s.whats,
      moments_agree all marks (hists_over after s.at marks hists s.whats) after states (s.at + 1) order.1 (agrees_next all levels s states next order.0 agrees),
    )

-- ---- the first state with an event

first_among : (life : Life) (es : List Atom) (at : ℕ) (levels : Levels) (seens rest : List Seen) → (λ signal. level_at life signal at) ≡ levels → AreAt at seens →
    first_state life es (seens ++ rest) ≡ (if is_any es seens levels then Some at else first_state life es rest)
unfolding first_state AreAt
first_among life es at levels [] rest same here = refl
first_among life es at levels (s ∷ seens) rest same here =
    let is : is_among life es s ≡ is_one es s.what s.marks levels =
    ap (λ t. is_one es s.what s.marks (λ signal. level_at life signal t)) here.0 ∙ ap (λ l. is_one es s.what s.marks l) same in
    elim (cases_Bool (is_one es s.what s.marks levels)) [
      | inl does ↦
          cond-true (is_among life es s) (Some s.at) (first_state life es (seens ++ rest)) (is ∙ does) ∙ ap (λ t. Some t) here.0
          ∙ sym (cond-true (is_one es s.what s.marks levels || is_any es seens levels) (Some at) (first_state life es rest) (ap (λ b. b || is_any es seens levels) does))
      | inr other ↦
          cond-false (is_among life es s) (Some s.at) (first_state life es (seens ++ rest)) (is ∙ other)
          ∙ first_among life es at levels seens rest same here.1
          ∙ ap (λ b. if b then Some at else first_state life es rest) (sym (ap (λ b. b || is_any es seens levels) other))
    ]

first_reported : (life : Life) (es : List Atom) (when : Option When) (moments : List Moment) → ((seens : List Seen) (levels : Levels) → comes when seens levels ≡ is_any es seens levels) →
    AreAgreed (λ t signal. level_at life signal t) moments → first_state life es (flat_map (λ m. m.seens) moments) ≡ first_moment when moments
unfolding first_state first_moment AreAgreed
first_reported life es when [] same agreed = refl
first_reported life es when (mo ∷ moments) same agreed =
    first_among life es mo.at mo.levels mo.seens (flat_map (λ m. m.seens) moments) agreed.0 agreed.1
    ∙ (λ i. cond (sym (same mo.seens mo.levels) i) (Some mo.at) (first_reported life es when moments same agreed.2 i))

from_reported : (life : Life) (when : Option When) (moments : List Moment) → AreAgreed (λ t signal. level_at life signal t) moments →
    first_of life (flat_map (λ m. m.seens) moments) when ≡ first_in when (first_by when) moments
from_reported life None moments agreed = refl
from_reported life (Some (whens.State at)) moments agreed = refl
from_reported life (Some (whens.Events es)) moments agreed = first_reported life es (Some (whens.Events es)) moments (λ seens levels. refl) agreed

none_first : (moments : List Moment) → first_moment None moments ≡ None
unfolding first_moment
none_first [] = refl
none_first (mo ∷ moments) = none_first moments

end_is : (life : Life) (when : Option When) (moments : List Moment) → AreAgreed (λ t signal. level_at life signal t) moments →
    end_of life (flat_map (λ m. m.seens) moments) when ≡ end_in when moments life.last
end_is life None moments agreed = sym (ap (λ o. or_end (life.last + 1) o) (none_first moments))
end_is life (Some (whens.State at)) moments agreed = sym (ap (λ o. or_end (min at (life.last + 1)) o) (first_none (Some (whens.State at)) at moments refl))
end_is life (Some (whens.Events es)) moments agreed =
    ap (λ o. or_end (life.last + 1) o) (first_reported life es (Some (whens.Events es)) moments (λ seens levels. refl) agreed)

-- ---- points

points_state : (life : Life) (form : Form) (at : ℕ) (levels : Levels) (seens : List Seen) → (λ signal. level_at life signal at) ≡ levels → AreAt at seens →
    map (point_of life form) seens ≡ points_at form at levels seens
unfolding AreAt
points_state life form at levels [] same here = refl
points_state life form at levels (s ∷ seens) same here =
    let is : point_of life form s ≡ point_at levels form at s.what s.marks =
    ap (λ t. point_at (λ signal. level_at life signal t) form t s.what s.marks) here.0 ∙ ap (λ l. point_at l form at s.what s.marks) same in
    λ i. is i ∷ points_state life form at levels seens same here.1 i

points_reported : (life : Life) (form : Form) (moments : List Moment) → AreAgreed (λ t signal. level_at life signal t) moments →
    map (point_of life form) (flat_map (λ m. m.seens) moments) ≡ flat_map (λ m. points_at form m.at m.levels m.seens) moments
unfolding AreAgreed
points_reported life form [] agreed = refl
points_reported life form (mo ∷ moments) agreed =
    map-append (point_of life form) mo.seens (flat_map (λ m. m.seens) moments)
    ∙ (λ i. points_state life form mo.at mo.levels mo.seens agreed.0 agreed.1 i ++ points_reported life form moments agreed.2 i)

-- ---- what is asked

asked_reported : (life : Life) (form : Form) (moments : List Moment) → AreAgreed (λ t signal. level_at life signal t) moments → (first : Option ℕ) (end : ℕ) →
    asked_moments form moments (times_one life form) (times_other life form) first end ≡ asked_life life form (flat_map (λ m. m.seens) moments) first end
asked_reported life form moments agreed None end = refl
asked_reported life form moments agreed (Some first) end =
    ap (λ ps. cond (ltb first end) (asked form first end (filter (is_between first end) ps) (times_one life form) (times_other life form)) []) (sym (points_reported life form moments agreed))

pub obligations_reported : (marks : List Mark) (rule : Rule) (start : Levels) (states : List State) (last : ℕ) → AreStatesFrom 0 states →
    asked_of rule (moments_of marks start states) last (times_one (life_of start states last) rule.form) (times_other (life_of start states last) rule.form)
    ≡ obligations marks rule (life_of start states last)
obligations_reported marks rule start states last order =
    let life = life_of start states last in
    let moments = moments_of marks start states in
    let seens = flat_map (λ m. m.seens) moments in
    let agreed = moments_agree (λ t signal. level_at life signal t) marks (unseen marks) start states 0 order (λ t from. refl) in
    asked_reported life rule.form moments agreed (first_in rule.scope.from (first_by rule.scope.from) moments) (end_in rule.scope.before moments last)
    ∙ (λ i. asked_life life rule.form seens (sym (from_reported life rule.scope.from moments agreed) i) (sym (end_is life rule.scope.before moments agreed) i))
    ∙ ap (λ ss. obligations_in rule life ss) (sym (seens_reported marks start states last order))

-- ---- two signals have their levels, or not, as at the end of the moment before

one_by : (life : Life) (form : Form) (t : ℕ) (levels : Levels) → (λ signal. level_at life signal t) ≡ levels → times_one life form t ≡ one_at form levels false
one_by life (forms.Never e) t levels same = refl
one_by life (forms.After f none e a b) t levels same = refl
one_by life (forms.At e share f g within) t levels same = refl
one_by life (forms.For steady span) t levels same = refl
one_by life (forms.ForShare steady shares) t levels same = refl
one_by life (forms.Every e span) t levels same = refl
one_by life (forms.InEach span e f g) t levels same = refl
one_by life (forms.InLife span e) t levels same = refl
one_by life (forms.Apart s u d) t levels same = ap (λ l. holds l s) same

other_by : (life : Life) (form : Form) (t : ℕ) (levels : Levels) → (λ signal. level_at life signal t) ≡ levels → times_other life form t ≡ other_at form levels false
other_by life (forms.Never e) t levels same = refl
other_by life (forms.After f none e a b) t levels same = refl
other_by life (forms.At e share f g within) t levels same = refl
other_by life (forms.For steady span) t levels same = refl
other_by life (forms.ForShare steady shares) t levels same = refl
other_by life (forms.Every e span) t levels same = refl
other_by life (forms.InEach span e f g) t levels same = refl
other_by life (forms.InLife span e) t levels same = refl
other_by life (forms.Apart s u d) t levels same = ap (λ l. holds l u) same

one_again : (form : Form) (now before : Levels) → one_at form now (one_at form before false) ≡ one_at form now false
one_again (forms.Never e) now before = refl
one_again (forms.After f none e a b) now before = refl
one_again (forms.At e share f g within) now before = refl
one_again (forms.For steady span) now before = refl
one_again (forms.ForShare steady shares) now before = refl
one_again (forms.Every e span) now before = refl
one_again (forms.InEach span e f g) now before = refl
one_again (forms.InLife span e) now before = refl
one_again (forms.Apart s u d) now before = refl

other_again : (form : Form) (now before : Levels) → other_at form now (other_at form before false) ≡ other_at form now false
other_again (forms.Never e) now before = refl
other_again (forms.After f none e a b) now before = refl
other_again (forms.At e share f g within) now before = refl
other_again (forms.For steady span) now before = refl
other_again (forms.ForShare steady shares) now before = refl
other_again (forms.Every e span) now before = refl
other_again (forms.InEach span e f g) now before = refl
other_again (forms.InLife span e) now before = refl
other_again (forms.Apart s u d) now before = refl

kept_reported : (life : Life) (form : Form) (levels : Levels) (states : List State) (next from end : ℕ) → next ≤ from → AreStatesFrom end states →
    Agrees (λ t signal. level_at life signal t) levels states next →
    AreKept (one_at form levels false) (other_at form levels false) from end (times_one life form) (times_other life form)
kept_reported life form levels states next from end le order agrees = record {
  one_kept = λ t later to. one_by life form t levels (agrees_before (λ t signal. level_at life signal t) levels states next t end (omega arith) to order agrees);
  other_kept = λ t later to. other_by life form t levels (agrees_before (λ t signal. level_at life signal t) levels states next t end (omega arith) to order agrees);
}

fitting : (life : Life) (form : Form) (marks : List Mark) (hists : List (List Hit)) (levels : Levels) (states : List State) (next last : ℕ) → AreStatesFrom next states →
    Agrees (λ t signal. level_at life signal t) levels states next →
    AreFitting form (one_at form levels false) (other_at form levels false) next (moments_by marks hists levels states) last (times_one life form) (times_other life form)
unfolding AreStatesFrom AreFitting moments_by
fitting life form marks hists levels [] next last order agrees = kept_reported life form levels [] next next (last + 1) (omega arith) tt agrees
fitting life form marks hists levels (s ∷ states) next last order agrees =
    let after = levels_after levels s.whats in
    let now = agrees_now (λ t signal. level_at life signal t) levels s states next order.0 order.1 agrees in
    let kept = kept_reported life form levels (s ∷ states) next next s.at (omega arith) (omega arith, order.1) agrees in
    let here : AreNow form after (one_at form levels false) (other_at form levels false) s.at (times_one life form) (times_other life form) = record {
      one_now = one_by life form s.at after now ∙ sym (one_again form after levels);
      other_now = other_by life form s.at after now ∙ sym (other_again form after levels);
    } in (
      kept,
      here,
      subst (λ x. AreFitting form x (other_at form after (other_at form levels false)) (s.at + 1) (moments_by marks (hists_over after s.at marks hists s.whats) after states) last (times_one life form) (times_other life form))
          (sym (one_again form after levels))
          (subst (λ y. AreFitting form (one_at form after false) y (s.at + 1) (moments_by marks (hists_over after s.at marks hists s.whats) after states) last (times_one life form) (times_other life form))
          (sym (other_again form after levels))
          (fitting life form marks (hists_over after s.at marks hists s.whats) after states (s.at + 1) last order.1
          (agrees_next (λ t signal. level_at life signal t) levels s states next order.0 agrees))),
    )

pub fitting_reported : (marks : List Mark) (form : Form) (start : Levels) (states : List State) (last : ℕ) → AreStatesFrom 0 states →
    AreFitting form (one_at form start false) (other_at form start false) 0 (moments_of marks start states) last
    (times_one (life_of start states last) form) (times_other (life_of start states last) form)
fitting_reported marks form start states last order = fitting (life_of start states last) form marks (unseen marks) start states 0 last order (λ t from. refl)

-- ---- moments in their order

pub moments_from : (marks : List Mark) (hists : List (List Hit)) (levels : Levels) (states : List State) (next : ℕ) → AreStatesFrom next states →
    AreMomentsFrom next (moments_by marks hists levels states)
unfolding AreStatesFrom AreMomentsFrom moments_by
moments_from marks hists levels [] next order = tt
moments_from marks hists levels (s ∷ states) next order =
    let after = levels_after levels s.whats in
    (order.0, moments_from marks (hists_over after s.at marks hists s.whats) after states (s.at + 1) order.1)

pub moments_upto : (marks : List Mark) (hists : List (List Hit)) (levels : Levels) (states : List State) (last : ℕ) → AreStatesUpTo last states →
    AreUpTo last (moments_by marks hists levels states)
unfolding AreStatesUpTo AreUpTo moments_by
moments_upto marks hists levels [] last within = tt
moments_upto marks hists levels (s ∷ states) last within =
    let after = levels_after levels s.whats in
    (within.0, moments_upto marks (hists_over after s.at marks hists s.whats) after states last within.1)
