-- The level that a dump has for a signal in a state of a life.
use Rattle.std.proofs.Common.{◌≡◌, ℕ, zero, suc, ◌+◌, ◌-◌, ◌^◌, ◌<◌, ◌≤◌, Bool, true, false, cond, leb, ◌⊎◌, inl, inr, Some, List, [], ◌∷◌, ◌++◌, fold, map, take, refl, sym, ap, subst, ◌∙◌, arith}
use Rattle.std.specs.Prelude.{slice_get}
use Rattle.std.proofs.lemmas.Bool.{le-leb, lt-leb, leb-true, leb-false, false≢true}
use Rattle.std.proofs.lemmas.List.{map-append}
use Rattle.std.proofs.lemmas.List.Elements.{filter-append}
use Rattle.std.proofs.lemmas.List.Sums.{fold-append}
use Rattle.kc_base.specs.Series.{up_to}
use Rattle.kc_base.specs.declared.types.Level.{Level}
use Rattle.kc_base.specs.declared.types.Level.TheVariants.{Low, High}
use Rattle.kc_trace.specs.declared.life.Signal.{Signal}
use Rattle.kc_trace.specs.declared.life.What.{What}
use Rattle.kc_trace.specs.declared.life.What.TheVariants as what
use Rattle.kc_trace.specs.declared.life.Event.{Event}
use Rattle.kc_trace.specs.Signals.{same_signal}
use Rattle.kc_trace.specs.Lives.{Life, State, moved_by, level_after, level_at, events_in, events_of}
use Rattle.kc_stim.specs.Drives.{Drives}
use Rattle.kc_events.specs.Grammar.{same_level}
use Rattle.kc_events.specs.Lives.{levels_after, start_levels}
use Rattle.kc_vcd.specs.declared.change.Change.{Change}
use Rattle.kc_vcd.specs.declared.change.Change.TheVariants.{Moves, Takes, Happens, Unseen}
use Rattle.kc_vcd.specs.declared.variable.Variable.{Variable}
use Rattle.kc_vcd.specs.declared.variable.Variable.TheVariants.{Wire, Analog, Entry, Transfer, Undefined}
use Rattle.kc_vcd.specs.declared.variable.Variable.TheVariants as variable
use Rattle.kc_vcd.specs.Changes.{Timed, change_by, differences, all_at, later, behind, changes_by}
use Rattle.kc_vcd.specs.Laws.{Member, level_behind}
use Rattle.kc_vcd.specs.Runs.{begin_of}
use Rattle.kc_vcd.proofs.Behind.{signal_is, same_self}
use Rattle.kc_vcd.proofs.Spans.{Span, Lasts, span_steps, span_lives, AreSpans, AreStates, are_states}
use Rattle.kc_vcd.proofs.Picked.{picked, picked-append, picked-at, picked-late, life_changes, levels_over, states_of, begin_changes, span_changes, span_none}

pub level-append : (signal : Signal) (l : Level) (xs ys : List Change) → level_behind signal l (xs ++ ys) ≡ level_behind signal (level_behind signal l xs) ys
level-append signal l [] ys = refl
level-append signal l (Moves other now ∷ xs) ys = level-append signal (cond (same_signal signal other) now l) xs ys
level-append signal l (Takes channel value ∷ xs) ys = level-append signal l xs ys
level-append signal l (Happens v ∷ xs) ys = level-append signal l xs ys
level-append signal l (Unseen ∷ xs) ys = level-append signal l xs ys

whats_level : (signal : Signal) (l : Level) (whats : List What) → level_behind signal l (map change_by whats) ≡ level_after signal l whats
whats_level signal l [] = refl
whats_level signal l (what.Edge other now ∷ whats) = whats_level signal (cond (same_signal signal other) now l) whats
whats_level signal l (what.Entry number ∷ whats) = whats_level signal l whats
whats_level signal l (what.Transfer number ∷ whats) = whats_level signal l whats
whats_level signal l (what.Undefined ∷ whats) = whats_level signal l whats
whats_level signal l (what.Reset ∷ whats) = whats_level signal l whats
whats_level signal l (what.Watchdog ∷ whats) = whats_level signal l whats
whats_level signal l (what.Powerdown ∷ whats) = whats_level signal l whats

-- ---- a life begins

level_is : (a b : Level) → same_level a b ≡ true → a ≡ b
level_is Low Low same = refl
level_is Low High same = absurd (false≢true same)
level_is High Low same = absurd (false≢true same)
level_is High High same = refl

restored : (signal : Signal) (old new : Signal → Level) (vs : List Variable) (l : Level) → (l ≡ new signal) ⊎ ((l ≡ old signal) × Member (Wire signal) vs) → level_behind signal l (differences vs old new) ≡ new signal
unfolding differences
restored signal old new [] l (inl is) = is
restored signal old new [] l (inr there) = absurd there.1
restored signal old new (Wire other ∷ vs) l h = by_level (same_level (old other) (new other)) refl (λ k. restored signal old new vs k) h
  where
    Rest : Type 0
    Rest = (k : Level) → (k ≡ new signal) ⊎ ((k ≡ old signal) × Member (Wire signal) vs) → level_behind signal k (differences vs old new) ≡ new signal

    same_is : other ≡ signal → same_signal signal other ≡ true
    same_is is = ap (same_signal signal) is ∙ same_self signal

    moved : (b : Bool) → same_signal signal other ≡ b → (l ≡ new signal) ⊎ ((l ≡ old signal) × Member (Wire signal) (Wire other ∷ vs)) → (cond b (new other) l ≡ new signal) ⊎ ((cond b (new other) l ≡ old signal) × Member (Wire signal) vs)
    moved true e given = inl (ap new (signal_is signal other e))
    moved false e (inl is) = inl is
    moved false e (inr (is, inl same)) = absurd (let there : other ≡ signal = cc in false≢true (sym e ∙ same_is there))
    moved false e (inr (is, inr there)) = inr (is, there)

    kept : same_level (old other) (new other) ≡ true → (l ≡ new signal) ⊎ ((l ≡ old signal) × Member (Wire signal) (Wire other ∷ vs)) → (l ≡ new signal) ⊎ ((l ≡ old signal) × Member (Wire signal) vs)
    kept e (inl is) = inl is
    kept e (inr (is, inl same)) = let there : other ≡ signal = cc in inl (is ∙ sym (ap old there) ∙ level_is (old other) (new other) e ∙ ap new there)
    kept e (inr (is, inr there)) = inr (is, there)

    by_level : (b : Bool) → same_level (old other) (new other) ≡ b → Rest → (l ≡ new signal) ⊎ ((l ≡ old signal) × Member (Wire signal) (Wire other ∷ vs)) →
        level_behind signal l (cond b [] (Moves other (new other) ∷ []) ++ differences vs old new) ≡ new signal
    by_level true e rest given = rest l (kept e given)
    by_level false e rest given = rest (cond (same_signal signal other) (new other) l) (moved (same_signal signal other) refl given)
restored signal old new (Analog channel ∷ vs) l (inl is) = restored signal old new vs l (inl is)
restored signal old new (Analog channel ∷ vs) l (inr (is, inl same)) = absurd cc
restored signal old new (Analog channel ∷ vs) l (inr (is, inr there)) = restored signal old new vs l (inr (is, there))
restored signal old new (Entry number ∷ vs) l (inl is) = restored signal old new vs l (inl is)
restored signal old new (Entry number ∷ vs) l (inr (is, inl same)) = absurd cc
restored signal old new (Entry number ∷ vs) l (inr (is, inr there)) = restored signal old new vs l (inr (is, there))
restored signal old new (Transfer number ∷ vs) l (inl is) = restored signal old new vs l (inl is)
restored signal old new (Transfer number ∷ vs) l (inr (is, inl same)) = absurd cc
restored signal old new (Transfer number ∷ vs) l (inr (is, inr there)) = restored signal old new vs l (inr (is, there))
restored signal old new (Undefined ∷ vs) l (inl is) = restored signal old new vs l (inl is)
restored signal old new (Undefined ∷ vs) l (inr (is, inl same)) = absurd cc
restored signal old new (Undefined ∷ vs) l (inr (is, inr there)) = restored signal old new vs l (inr (is, there))
restored signal old new (variable.Life ∷ vs) l (inl is) = restored signal old new vs l (inl is)
restored signal old new (variable.Life ∷ vs) l (inr (is, inl same)) = absurd cc
restored signal old new (variable.Life ∷ vs) l (inr (is, inr there)) = restored signal old new vs l (inr (is, there))

begin_level : (signal : Signal) (vs : List Variable) (first : Bool) (old new : Signal → Level) → Member (Wire signal) vs → level_behind signal (old signal) (begin_changes vs first old new) ≡ new signal
begin_level signal vs true old new there = restored signal old new vs (old signal) (inr (refl, there))
begin_level signal vs false old new there = restored signal old new vs (old signal) (inr (refl, there))

begun_level : (signal : Signal) (vs : List Variable) (first : Bool) (base t : ℕ) (old new : Signal → Level) → Member (Wire signal) vs → base ≤ t →
    level_behind signal (old signal) (picked (λ at. leb at t) (all_at base (begin_changes vs first old new))) ≡ new signal
begun_level signal vs first base t old new there sooner =
    ap (level_behind signal (old signal)) (picked-at (λ at. leb at t) base (begin_changes vs first old new) ∙ ap (λ b. cond b (begin_changes vs first old new) []) (le-leb base t sooner))
    ∙ begin_level signal vs first old new there

-- ---- its states

same_test : (a b c d : ℕ) → (a ≤ b → c ≤ d) → (b < a → d < c) → leb a b ≡ leb c d
same_test a b c d low high = by_test (leb a b) refl
  where
    by_test : (k : Bool) → leb a b ≡ k → k ≡ leb c d
    by_test true e = sym (le-leb c d (low (leb-true a b e)))
    by_test false e = sym (lt-leb c d (high (leb-false a b e)))

whats_to : (t at : ℕ) (whats : List What) → map (λ (e : Event). e.what) (up_to (λ e. e.at) t (events_in at whats)) ≡ cond (leb at t) whats []
whats_to t at [] = none (leb at t)
  where
    none : (b : Bool) → [] ≡ cond {A = List What} b [] []
    none true = refl
    none false = refl
whats_to t at (w ∷ whats) = by_test (leb at t) (whats_to t at whats)
  where
    by_test : (b : Bool) → map (λ (e : Event). e.what) (up_to (λ e. e.at) t (events_in at whats)) ≡ cond b whats [] →
        map (λ (e : Event). e.what) (cond b (record { at = at; what = w } ∷ up_to (λ e. e.at) t (events_in at whats)) (up_to (λ e. e.at) t (events_in at whats))) ≡ cond b (w ∷ whats) []
    by_test true rest = ap (λ (ws : List What). w ∷ ws) rest
    by_test false rest = rest

either_level : (signal : Signal) (l : Level) (b : Bool) (whats : List What) → level_behind signal l (cond b (map change_by whats) []) ≡ level_after signal l (cond b whats [])
either_level signal l true whats = whats_level signal l whats
either_level signal l false whats = refl

-- up to a state of the life
life_level : (signal : Signal) (base t time last : ℕ) (l : Level) (states : List State) → time ≡ base + t → base + last < 2 ^ 64 - 1 → AreStates last states →
    level_behind signal l (picked (λ at. leb at time) (life_changes base states)) ≡ level_after signal l (map (λ (e : Event). e.what) (up_to (λ e. e.at) t (events_of states)))
life_level signal base t time last l [] there few h = refl
life_level signal base t time last l (s ∷ states) there few h =
    let within : s.at ≤ last = h.0 in
    let at = later base s.at in
    let now = map change_by s.whats in
    let test : leb at time ≡ leb s.at t = same_test at time s.at t (λ low. omega (arith, low, there, few, within)) (λ high. omega (arith, high, there, few, within)) in
    let seen = cond (leb s.at t) s.whats [] in
    let mid = level_after signal l seen in
    let whats_of : List Event → List What = λ events. map (λ (e : Event). e.what) (up_to (λ e. e.at) t events) in
    ap (level_behind signal l) (picked-append (λ at. leb at time) (all_at at now) (life_changes base states))
    ∙ level-append signal l (picked (λ at. leb at time) (all_at at now)) (picked (λ at. leb at time) (life_changes base states))
    ∙ ap (λ k. level_behind signal k (picked (λ at. leb at time) (life_changes base states)))
    (ap (level_behind signal l) (picked-at (λ at. leb at time) at now ∙ ap (λ b. cond b now []) test) ∙ either_level signal l (leb s.at t) s.whats)
    ∙ life_level signal base t time last mid states there few h.2
    ∙ sym (fold-append (moved_by signal) l seen (whats_of (events_of states)))
    ∙ ap (λ (ws : List What). level_after signal l (ws ++ whats_of (events_of states))) (sym (whats_to t s.at s.whats))
    ∙ ap (level_after signal l) (sym (ap (map (λ (e : Event). e.what)) (filter-append (λ e. leb e.at t) (events_in s.at s.whats) (events_of states)) ∙ map-append (λ (e : Event). e.what) (up_to (λ e. e.at) t (events_in s.at s.whats)) (up_to (λ e. e.at) t (events_of states))))

-- to its end
life_over : (signal : Signal) (base time last : ℕ) (levels : Signal → Level) (states : List State) → base + last ≤ time → base + last < 2 ^ 64 - 1 → AreStates last states →
    level_behind signal (levels signal) (picked (λ at. leb at time) (life_changes base states)) ≡ levels_over levels states signal
life_over signal base time last levels [] past few h = refl
life_over signal base time last levels (s ∷ states) past few h =
    let within : s.at ≤ last = h.0 in
    let at = later base s.at in
    let now = map change_by s.whats in
    ap (level_behind signal (levels signal)) (picked-append (λ at. leb at time) (all_at at now) (life_changes base states))
    ∙ level-append signal (levels signal) (picked (λ at. leb at time) (all_at at now)) (picked (λ at. leb at time) (life_changes base states))
    ∙ ap (λ k. level_behind signal k (picked (λ at. leb at time) (life_changes base states)))
    (ap (level_behind signal (levels signal)) (picked-at (λ at. leb at time) at now ∙ ap (λ b. cond b now []) (le-leb at time (omega (arith, past, few, within)))) ∙ whats_level signal (levels signal) s.whats)
    ∙ life_over signal base time last (levels_after levels s.whats) states past few h.2

-- ---- a run

plus_all : (a : ℕ) (xs : List ℕ) → fold ◌+◌ a xs ≡ a + fold ◌+◌ 0 xs
plus_all a [] = omega arith
plus_all a (x ∷ xs) = let one = plus_all (a + x) xs in let two = plus_all (0 + x) xs in omega (arith, one, two)

pub begin_next : (n : ℕ) (life : Life) (lives : List Life) → begin_of (suc n) (life ∷ lives) ≡ life.last + 1 + begin_of n lives
begin_next n life lives =
    let first : 0 + (life.last + 1) ≡ life.last + 1 = omega arith in
    plus_all (0 + (life.last + 1)) (map (λ l. l.last + 1) (take n lives)) ∙ ap (λ k. k + begin_of n lives) first

pub spans_level : (signal : Signal) (vs : List Variable) (d : Drives) (spans : List Span) (first : Bool) (base from count t time : ℕ) (levels : Signal → Level) (life : Life) → Member (Wire signal) vs → AreSpans from spans → base ≡ from → from ≤ 4000000000000000 →
    slice_get (span_lives d from spans) count ≡ Some life → t ≤ life.last → time ≡ base + (begin_of count (span_lives d from spans) + t) →
    level_behind signal (levels signal) (picked (λ at. leb at time) (changes_by vs first base levels (span_steps d from spans))) ≡ level_at life signal t
spans_level signal vs d [] first base from count t time levels life there h same low is within at = absurd cc
spans_level signal vs d (Lasts reported zero ∷ spans) first base from count t time levels life there h same low is within at =
    let new = start_levels d from in
    let head = all_at base (begin_changes vs first levels new) in
    let rest = changes_by vs false base new (span_steps d (from + 0) spans) in
    let test : ℕ → Bool = λ k. leb k time in
    ap (λ (cs : List Timed). level_behind signal (levels signal) (picked test cs)) (span_none vs first base levels d from reported (span_steps d (from + 0) spans))
    ∙ ap (level_behind signal (levels signal)) (picked-append test head rest)
    ∙ level-append signal (levels signal) (picked test head) (picked test rest)
    ∙ ap (λ k. level_behind signal k (picked test rest)) (begun_level signal vs first base time levels new there (omega (arith, at)))
    ∙ spans_level signal vs d spans false base (from + 0) count t time new life there h.2 (omega (arith, same)) (omega (arith, low)) is within at
spans_level signal vs d (Lasts reported (suc last) ∷ spans) first base from count t time levels life there h same low is within at =
    let new = start_levels d from in
    let states = states_of d from reported last in
    let known = are_states d from reported (suc last) 0 last new h.1 (omega arith) in
    let head = all_at base (begin_changes vs first levels new) in
    let middle = life_changes base states in
    let steps = span_steps d (from + suc last) spans in
    let after = levels_over new states in
    let rest = changes_by vs false (behind base last) after steps in
    let test : ℕ → Bool = λ k. leb k time in
    let few : from + suc last ≤ 4000000000000000 = h.0 in
    ap (λ (cs : List Timed). level_behind signal (levels signal) (picked test cs)) (span_changes vs first base levels d from reported last steps)
    ∙ ap (level_behind signal (levels signal)) (picked-append test head (middle ++ rest) ∙ ap (λ (cs : List Change). picked test head ++ cs) (picked-append test middle rest))
    ∙ level-append signal (levels signal) (picked test head) (picked test middle ++ picked test rest)
    ∙ ap (λ k. level_behind signal k (picked test middle ++ picked test rest)) (begun_level signal vs first base time levels new there (omega (arith, at)))
    ∙ level-append signal (new signal) (picked test middle) (picked test rest)
    ∙ by_count count is at known few (λ n. spans_level signal vs d spans false (behind base last) (from + suc last) n t time after life there h.2)
  where
    new : Signal → Level
    new = start_levels d from

    states : List State
    states = states_of d from reported last

    others : List Life
    others = span_lives d (from + suc last) spans

    rest : List Timed
    rest = changes_by vs false (behind base last) (levels_over new states) (span_steps d (from + suc last) spans)

    this : Life
    this = record { start = new; events = events_of states; last = last }

    by_count : (n : ℕ) → slice_get (this ∷ others) n ≡ Some life → time ≡ base + (begin_of n (this ∷ others) + t) → AreStates last states → from + suc last ≤ 4000000000000000 →
        ((m : ℕ) → behind base last ≡ from + suc last → from + suc last ≤ 4000000000000000 → slice_get others m ≡ Some life → t ≤ life.last → time ≡ behind base last + (begin_of m others + t) →
        level_behind signal (levels_over new states signal) (picked (λ k. leb k time) rest) ≡ level_at life signal t) →
        level_behind signal (level_behind signal (new signal) (picked (λ k. leb k time) (life_changes base states))) (picked (λ k. leb k time) rest) ≡ level_at life signal t
    by_count zero is at known few others_too =
        let here : this ≡ life = cc in
        let short : t ≤ last = subst (λ (x : Life). t ≤ x.last) (sym here) within in
        let time_is : time ≡ base + t = omega (arith, at) in
        ap (level_behind signal (level_behind signal (new signal) (picked (λ k. leb k time) (life_changes base states))))
        (picked-late (λ k. leb k time) vs false (behind base last) (levels_over new states) (span_steps d (from + suc last) spans) (λ k more. lt-leb k time (omega (arith, more, time_is, short, few, same))) (omega arith))
        ∙ life_level signal base t time last (new signal) states time_is (omega (arith, few, same)) known
        ∙ ap (λ (x : Life). level_at x signal t) here
    by_count (suc n) is at known few others_too =
        let next : behind base last ≡ from + suc last = omega (arith, same, few) in
        let all : begin_of (suc n) (this ∷ others) ≡ last + 1 + begin_of n others = begin_next n this others in
        ap (λ k. level_behind signal k (picked (λ k. leb k time) rest)) (life_over signal base time last new states (omega (arith, at, all)) (omega (arith, few, same)) known)
        ∙ others_too n next few is within (omega (arith, at, all, next, same))
