-- The changes in some states of a run, by the spans of its lives.
use Rattle.std.proofs.Common.{◌≡◌, ℕ, zero, suc, ◌+◌, ◌^◌, ◌<◌, ◌≤◌, Bool, true, false, cond, List, [], ◌∷◌, ◌++◌, filter, map, refl, sym, ap, subst, ◌∙◌, append_assoc, arith}
use Rattle.std.proofs.lemmas.List.{map-append}
use Rattle.std.proofs.lemmas.List.Elements.{filter-append}
use Rattle.kc_base.specs.declared.types.Level.{Level}
use Rattle.kc_trace.specs.declared.life.Signal.{Signal}
use Rattle.kc_trace.specs.declared.life.What.{What}
use Rattle.kc_trace.specs.declared.life.Event.{Event}
use Rattle.kc_trace.specs.Lives.{State}
use Rattle.kc_stim.specs.Drives.{Drives}
use Rattle.kc_events.specs.Grammar.{same_level}
use Rattle.kc_events.specs.Lives.{levels_after, start_levels, states_from}
use Rattle.kc_events.specs.Steps.{Seen, Begins, Passes, Ends, passes, seen_of}
use Rattle.kc_vcd.specs.declared.change.Change.{Change}
use Rattle.kc_vcd.specs.declared.change.Change.TheVariants.{Moves}
use Rattle.kc_vcd.specs.declared.variable.Variable.{Variable}
use Rattle.kc_vcd.specs.declared.variable.Variable.TheVariants.{Wire, Analog, Entry, Transfer, Undefined, Life}
use Rattle.kc_vcd.specs.Changes.{Timed, change_by, differences, beginning, all_at, later, behind, changes_by}
use Rattle.kc_vcd.specs.Laws.{AllKnown, IsKnownChange, AreKnown}
use Rattle.kc_vcd.proofs.Spans.{Span, Lasts, span_steps, AreSpans, AreStates, AreWhats, are_states}

-- ---- changes in the states of a test

abbrev pub picked : (ℕ → Bool) → List Timed → List Change
picked test changes = map (λ c. c.change) (filter (λ c. test c.at) changes)

pub picked-append : (test : ℕ → Bool) (xs ys : List Timed) → picked test (xs ++ ys) ≡ picked test xs ++ picked test ys
picked-append test xs ys =
    ap (map (λ c. c.change)) (filter-append (λ c. test c.at) xs ys) ∙ map-append (λ c. c.change) (filter (λ c. test c.at) xs) (filter (λ c. test c.at) ys)

pub picked-at : (test : ℕ → Bool) (t : ℕ) (changes : List Change) → picked test (all_at t changes) ≡ cond (test t) changes []
picked-at test t [] = none (test t)
  where
    none : (b : Bool) → [] ≡ cond {A = List Change} b [] []
    none true = refl
    none false = refl
picked-at test t (c ∷ changes) = by_test (test t) (picked-at test t changes)
  where
    by_test : (b : Bool) → picked test (all_at t changes) ≡ cond b changes [] →
        map (λ (x : Timed). x.change) (cond b (record { at = t; change = c } ∷ filter (λ x. test x.at) (all_at t changes)) (filter (λ x. test x.at) (all_at t changes))) ≡ cond b (c ∷ changes) []
    by_test true rest = ap (λ (cs : List Change). c ∷ cs) rest
    by_test false rest = rest

-- none behind these states
pub picked-late : (test : ℕ → Bool) (vs : List Variable) (first : Bool) (base : ℕ) (levels : Signal → Level) (steps : List Seen) → ((at : ℕ) → base ≤ at → test at ≡ false) → base < 2 ^ 64 →
    picked test (changes_by vs first base levels steps) ≡ []
unfolding changes_by
picked-late test vs first base levels [] off few = refl
picked-late test vs first base levels (Begins new ∷ steps) off few =
    let now = beginning first ++ differences vs levels new in
    picked-append test (all_at base now) (changes_by vs false base new steps)
    ∙ (λ i. (picked-at test base now ∙ ap (λ b. cond b now []) (off base (omega arith))) i ++ picked-late test vs false base new steps off few i)
picked-late test vs first base levels (Passes state ∷ steps) off few =
    let now = map change_by state.whats in
    let t = later base state.at in
    picked-append test (all_at t now) (changes_by vs first base (levels_after levels state.whats) steps)
    ∙ (λ i. (picked-at test t now ∙ ap (λ b. cond b now []) (off t (omega (arith, few)))) i ++ picked-late test vs first base (levels_after levels state.whats) steps off few i)
picked-late test vs first base levels (Ends last ∷ steps) off few =
    picked-late test vs first (behind base last) levels steps (λ at more. off at (omega (arith, more, few))) (omega (arith, few))

-- ---- the changes of a life

abbrev pub life_changes : ℕ → List State → List Timed
life_changes base [] = []
life_changes base (s ∷ states) = all_at (later base s.at) (map change_by s.whats) ++ life_changes base states

-- the levels behind states
abbrev pub levels_over : (Signal → Level) → List State → Signal → Level
levels_over levels [] = levels
levels_over levels (s ∷ states) = levels_over (levels_after levels s.whats) states

passes_changes : (vs : List Variable) (first : Bool) (base : ℕ) (levels : Signal → Level) (states : List State) (rest : List Seen) →
    changes_by vs first base levels (passes states ++ rest) ≡ life_changes base states ++ changes_by vs first base (levels_over levels states) rest
unfolding changes_by
passes_changes vs first base levels [] rest = refl
passes_changes vs first base levels (s ∷ states) rest = by (λ now. passes_changes vs first base now states rest) s.whats
  where
    by : ((now : Signal → Level) → changes_by vs first base now (passes states ++ rest) ≡ life_changes base states ++ changes_by vs first base (levels_over now states) rest) → (whats : List What) → changes_by vs first base levels (passes (record { at = s.at; whats = whats } ∷ states) ++ rest)
        ≡ (all_at (later base s.at) (map change_by whats) ++ life_changes base states) ++ changes_by vs first base (levels_over (levels_after levels whats) states) rest
    by others [] = others levels
    by others (w ∷ whats) =
        let head = all_at (later base s.at) (map change_by (w ∷ whats)) in
        ap (λ (cs : List Timed). head ++ cs) (others (levels_after levels (w ∷ whats)))
        ∙ sym (append_assoc head (life_changes base states) (changes_by vs first base (levels_over (levels_after levels (w ∷ whats)) states) rest))

abbrev pub states_of : Drives → ℕ → List Event → ℕ → List State
states_of d base reported last = states_from d base reported (suc last) 0 (start_levels d base)

-- those with which a life begins
abbrev pub begin_changes : List Variable → Bool → (Signal → Level) → (Signal → Level) → List Change
begin_changes vs first old new = beginning first ++ differences vs old new

pub span_changes : (vs : List Variable) (first : Bool) (base : ℕ) (levels : Signal → Level) (d : Drives) (from : ℕ) (reported : List Event) (last : ℕ) (rest : List Seen) →
    changes_by vs first base levels (seen_of d from reported (suc last) ++ rest)
    ≡ all_at base (begin_changes vs first levels (start_levels d from)) ++ (life_changes base (states_of d from reported last) ++ changes_by vs false (behind base last) (levels_over (start_levels d from) (states_of d from reported last)) rest)
unfolding changes_by
span_changes vs first base levels d from reported last rest =
    let states = states_of d from reported last in
    let new = start_levels d from in
    let head = all_at base (begin_changes vs first levels new) in
    ap (λ (steps : List Seen). head ++ changes_by vs false base new steps) (append_assoc (passes states) (Ends last ∷ []) rest)
    ∙ ap (λ (cs : List Timed). head ++ cs) (passes_changes vs false base new states (Ends last ∷ rest))

pub span_none : (vs : List Variable) (first : Bool) (base : ℕ) (levels : Signal → Level) (d : Drives) (from : ℕ) (reported : List Event) (rest : List Seen) →
    changes_by vs first base levels (seen_of d from reported 0 ++ rest) ≡ all_at base (begin_changes vs first levels (start_levels d from)) ++ changes_by vs false base (start_levels d from) rest
unfolding changes_by
span_none vs first base levels d from reported rest = refl

-- ---- all changes are known

pub both_known : (xs ys : List Timed) → AreKnown xs → AreKnown ys → AreKnown (xs ++ ys)
both_known [] ys h k = k
both_known (x ∷ xs) ys h k = (h.0, h.1, both_known xs ys h.2 k)

abbrev pub AreChanges : List Change → Type 0
AreChanges [] = Unit {0}
AreChanges (c ∷ changes) = IsKnownChange c × AreChanges changes

both_changes : (xs ys : List Change) → AreChanges xs → AreChanges ys → AreChanges (xs ++ ys)
both_changes [] ys h k = k
both_changes (x ∷ xs) ys h k = (h.0, both_changes xs ys h.1 k)

at_known : (t : ℕ) (changes : List Change) → t < 2 ^ 64 → AreChanges changes → AreKnown (all_at t changes)
at_known t [] few h = tt
at_known t (c ∷ changes) few h = (few, h.0, at_known t changes few h.1)

differences_known : (vs : List Variable) (old new : Signal → Level) → AllKnown vs → AreChanges (differences vs old new)
unfolding differences
differences_known [] old new known = tt
differences_known (Wire signal ∷ vs) old new known = by_test (same_level (old signal) (new signal)) (differences_known vs old new known.1)
  where
    by_test : (b : Bool) → AreChanges (differences vs old new) → AreChanges (cond b [] (Moves signal (new signal) ∷ []) ++ differences vs old new)
    by_test true rest = rest
    by_test false rest = (known.0, rest)
differences_known (Analog channel ∷ vs) old new known = differences_known vs old new known.1
differences_known (Entry number ∷ vs) old new known = differences_known vs old new known.1
differences_known (Transfer number ∷ vs) old new known = differences_known vs old new known.1
differences_known (Undefined ∷ vs) old new known = differences_known vs old new known.1
differences_known (Life ∷ vs) old new known = differences_known vs old new known.1

begin_known : (vs : List Variable) (first : Bool) (old new : Signal → Level) → AllKnown vs → AreChanges (begin_changes vs first old new)
begin_known vs true old new known = differences_known vs old new known
begin_known vs false old new known = ((tt, omega arith), differences_known vs old new known)

whats_known : (whats : List What) → AreWhats whats → AreChanges (map change_by whats)
whats_known [] h = tt
whats_known (w ∷ whats) h = (h.0, whats_known whats h.1)

life_known : (base last : ℕ) (states : List State) → AreStates last states → AreKnown (life_changes base states)
life_known base last [] h = tt
life_known base last (s ∷ states) h =
    both_known (all_at (later base s.at) (map change_by s.whats)) (life_changes base states) (at_known (later base s.at) (map change_by s.whats) (omega arith) (whats_known s.whats h.1)) (life_known base last states h.2)

pub spans_known : (vs : List Variable) (first : Bool) (base : ℕ) (levels : Signal → Level) (d : Drives) (from : ℕ) (spans : List Span) → AllKnown vs → base < 2 ^ 64 → AreSpans from spans →
    AreKnown (changes_by vs first base levels (span_steps d from spans))
unfolding changes_by
spans_known vs first base levels d from [] known few h = tt
spans_known vs first base levels d from (Lasts reported zero ∷ spans) known few h =
    let new = start_levels d from in
    both_known (all_at base (begin_changes vs first levels new)) (changes_by vs false base new (span_steps d (from + 0) spans)) (at_known base (begin_changes vs first levels new) few (begin_known vs first levels new known))
    (spans_known vs false base new d (from + 0) spans known few h.2)
spans_known vs first base levels d from (Lasts reported (suc last) ∷ spans) known few h =
    let new = start_levels d from in
    let states = states_of d from reported last in
    let rest = span_steps d (from + suc last) spans in
    let after = changes_by vs false (behind base last) (levels_over new states) rest in
    subst AreKnown (sym (span_changes vs first base levels d from reported last rest))
    (both_known (all_at base (begin_changes vs first levels new)) (life_changes base states ++ after) (at_known base (begin_changes vs first levels new) few (begin_known vs first levels new known))
    (both_known (life_changes base states) after (life_known base last states (are_states d from reported (suc last) 0 last new h.1 (omega arith)))
    (spans_known vs false (behind base last) (levels_over new states) d (from + suc last) spans known (omega (arith, few)) h.2)))
