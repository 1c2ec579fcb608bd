-- The value that a dump has for an analogue input in a state of the run.
use Rattle.std.proofs.Common.{◌≡◌, ℕ, zero, suc, ◌+◌, ◌^◌, ◌<◌, ◌≤◌, Bool, true, false, cond, eqb, leb, ltb, Some, List, [], ◌∷◌, ◌++◌, filter, map, refl, sym, ap, subst, ◌∙◌, append_assoc, arith}
use Rattle.std.specs.Prelude.{slice_get}
use Rattle.std.proofs.lemmas.Bool.{lt-leb, leb-true, leb-false, ltb-false}
use Rattle.kc_base.specs.Series.{up_to}
use Rattle.kc_base.specs.declared.types.Level.{Level}
use Rattle.kc_trace.specs.declared.life.Signal.{Signal}
use Rattle.kc_trace.specs.declared.life.What.{What}
use Rattle.kc_trace.specs.declared.life.What.TheVariants as what
use Rattle.kc_trace.specs.Lives.{Life, State, events_of}
use Rattle.kc_stim.specs.Drives.{Drives}
use Rattle.kc_convert.specs.declared.sample.Sample.{Sample}
use Rattle.kc_convert.specs.Samples.{of_channel, last_value, value_at}
use Rattle.kc_events.specs.Grammar.{same_level}
use Rattle.kc_events.specs.Lives.{levels_after, start_levels}
use Rattle.kc_events.specs.Steps.{Seen, Begins, Passes, Ends, passes, seen_of}
use Rattle.kc_vcd.specs.declared.change.Change.{Change}
use Rattle.kc_vcd.specs.declared.change.Change.TheVariants.{Moves, Takes, Happens, Unseen}
use Rattle.kc_vcd.specs.declared.variable.Variable.{Variable}
use Rattle.kc_vcd.specs.declared.variable.Variable.TheVariants.{Wire, Analog, Entry, Transfer, Undefined}
use Rattle.kc_vcd.specs.declared.variable.Variable.TheVariants as variable
use Rattle.kc_vcd.specs.Changes.{Timed, change_by, differences, beginning, all_at, later, behind, changes_by, end_by, taken, before, after, with_values}
use Rattle.kc_vcd.specs.Dump.{timed_to}
use Rattle.kc_vcd.specs.Laws.{value_behind}
use Rattle.kc_vcd.specs.Runs.{begin_of}
use Rattle.kc_vcd.proofs.Samples.{InOrder, order_rest, none_sooner, all_behind, taken_sooner, left_sooner}
use Rattle.kc_vcd.proofs.Spans.{Span, Lasts, span_steps, span_lives, AreSpans}
use Rattle.kc_vcd.proofs.Picked.{picked, picked-append, states_of}
use Rattle.kc_vcd.proofs.RunLevels.{begin_next}

value-append : (channel v : ℕ) (xs ys : List Change) → value_behind channel v (xs ++ ys) ≡ value_behind channel (value_behind channel v xs) ys
value-append channel v [] ys = refl
value-append channel v (Takes other now ∷ xs) ys = value-append channel (cond (eqb other channel) now v) xs ys
value-append channel v (Moves signal level ∷ xs) ys = value-append channel v xs ys
value-append channel v (Happens event ∷ xs) ys = value-append channel v xs ys
value-append channel v (Unseen ∷ xs) ys = value-append channel v xs ys

-- ---- changes that are no values

abbrev is_other : Change → Bool
is_other (Takes channel value) = false
is_other _ = true

abbrev AreOthers : List Change → Type 0
AreOthers [] = Unit {0}
AreOthers (c ∷ changes) = (is_other c ≡ true) × AreOthers changes

abbrev pub NoValues : List Timed → Type 0
NoValues [] = Unit {0}
NoValues (c ∷ changes) = (is_other c.change ≡ true) × NoValues changes

both_none : (xs ys : List Timed) → NoValues xs → NoValues ys → NoValues (xs ++ ys)
both_none [] ys h k = k
both_none (x ∷ xs) ys h k = (h.0, both_none xs ys h.1 k)

at_none : (t : ℕ) (changes : List Change) → AreOthers changes → NoValues (all_at t changes)
at_none t [] h = tt
at_none t (c ∷ changes) h = (h.0, at_none t changes h.1)

what_other : (w : What) → is_other (change_by w) ≡ true
what_other (what.Edge signal level) = refl
what_other (what.Entry number) = refl
what_other (what.Transfer number) = refl
what_other what.Undefined = refl
what_other what.Reset = refl
what_other what.Watchdog = refl
what_other what.Powerdown = refl

whats_others : (whats : List What) → AreOthers (map change_by whats)
whats_others [] = tt
whats_others (w ∷ whats) = (what_other w, whats_others whats)

differences_others : (vs : List Variable) (old new : Signal → Level) → AreOthers (differences vs old new)
unfolding differences
differences_others [] old new = tt
differences_others (Wire signal ∷ vs) old new = by_test (same_level (old signal) (new signal)) (differences_others vs old new)
  where
    by_test : (b : Bool) → AreOthers (differences vs old new) → AreOthers (cond b [] (Moves signal (new signal) ∷ []) ++ differences vs old new)
    by_test true rest = rest
    by_test false rest = (refl, rest)
differences_others (Analog channel ∷ vs) old new = differences_others vs old new
differences_others (Entry number ∷ vs) old new = differences_others vs old new
differences_others (Transfer number ∷ vs) old new = differences_others vs old new
differences_others (Undefined ∷ vs) old new = differences_others vs old new
differences_others (variable.Life ∷ vs) old new = differences_others vs old new

begin_others : (vs : List Variable) (first : Bool) (old new : Signal → Level) → AreOthers (beginning first ++ differences vs old new)
begin_others vs true old new = differences_others vs old new
begin_others vs false old new = (refl, differences_others vs old new)

pub steps_none : (vs : List Variable) (first : Bool) (base : ℕ) (levels : Signal → Level) (steps : List Seen) → NoValues (changes_by vs first base levels steps)
unfolding changes_by
steps_none vs first base levels [] = tt
steps_none vs first base levels (Begins new ∷ steps) =
    both_none (all_at base (beginning first ++ differences vs levels new)) (changes_by vs false base new steps) (at_none base (beginning first ++ differences vs levels new) (begin_others vs first levels new)) (steps_none vs false base new steps)
steps_none vs first base levels (Passes state ∷ steps) =
    both_none (all_at (later base state.at) (map change_by state.whats)) (changes_by vs first base (levels_after levels state.whats) steps) (at_none (later base state.at) (map change_by state.whats) (whats_others state.whats))
    (steps_none vs first base (levels_after levels state.whats) steps)
steps_none vs first base levels (Ends last ∷ steps) = steps_none vs first (behind base last) levels steps

other_value : (channel v : ℕ) (c : Change) (b : Bool) → is_other c ≡ true → value_behind channel v (cond b (c ∷ []) []) ≡ v
other_value channel v (Moves signal level) true is = refl
other_value channel v (Happens event) true is = refl
other_value channel v Unseen true is = refl
other_value channel v (Takes other now) b is = absurd cc
other_value channel v (Moves signal level) false is = refl
other_value channel v (Happens event) false is = refl
other_value channel v Unseen false is = refl

one_other : (channel v : ℕ) (test : ℕ → Bool) (c : Timed) → is_other c.change ≡ true → value_behind channel v (picked test (c ∷ [])) ≡ v
one_other channel v test c is = by_test (test c.at)
  where
    by_test : (b : Bool) → value_behind channel v (map (λ (x : Timed). x.change) (cond b (c ∷ []) [])) ≡ v
    by_test true = other_value channel v c.change true is
    by_test false = refl

-- ---- values up to a state

-- the value that samples leave in a state
abbrev left : ℕ → ℕ → List Sample → ℕ → ℕ
left channel time samples v = last_value (up_to (λ s. s.at) time (of_channel channel samples)) v

abbrev next : ℕ → ℕ → Sample → ℕ → ℕ
next channel time s v = cond (eqb s.channel channel) (cond (leb s.at time) s.value v) v

left-cons : (channel time : ℕ) (s : Sample) (samples : List Sample) (v : ℕ) → left channel time (s ∷ samples) v ≡ left channel time samples (next channel time s v)
left-cons channel time s samples v = by_test (eqb s.channel channel) (leb s.at time)
  where
    rest : List Sample
    rest = of_channel channel samples

    by_time : (k : Bool) → last_value (cond k (s ∷ up_to (λ x. x.at) time rest) (up_to (λ x. x.at) time rest)) v ≡ last_value (up_to (λ x. x.at) time rest) (cond k s.value v)
    by_time true = refl
    by_time false = refl

    by_test : (b k : Bool) → last_value (up_to (λ x. x.at) time (cond b (s ∷ rest) rest)) v ≡ last_value (up_to (λ x. x.at) time rest) (cond b (cond (leb s.at time) s.value v) v)
    by_test true k = by_time (leb s.at time)
    by_test false k = refl

either : (b : Bool) (k : ℕ) → cond b k k ≡ k
either true k = refl
either false k = refl

taken_left : (channel time : ℕ) (samples : List Sample) (v : ℕ) → value_behind channel v (picked (λ at. leb at time) (taken samples)) ≡ left channel time samples v
taken_left channel time [] v = refl
taken_left channel time (s ∷ samples) v = by_test (leb s.at time) (λ k. taken_left channel time samples k) ∙ sym (left-cons channel time s samples v)
  where
    by_test : (b : Bool) → ((w : ℕ) → value_behind channel w (picked (λ at. leb at time) (taken samples)) ≡ left channel time samples w) →
        value_behind channel v (map (λ (c : Timed). c.change) (cond b (record { at = s.at; change = Takes s.channel s.value } ∷ filter (λ c. leb c.at time) (taken samples)) (filter (λ c. leb c.at time) (taken samples))))
        ≡ left channel time samples (cond (eqb s.channel channel) (cond b s.value v) v)
    by_test true others = others (cond (eqb s.channel channel) s.value v)
    by_test false others = others v ∙ ap (left channel time samples) (sym (either (eqb s.channel channel) v))

-- those behind the end are behind the state
before_left : (channel time end : ℕ) (samples : List Sample) (v : ℕ) → time < end → left channel time (before end samples) v ≡ left channel time samples v
before_left channel time end [] v less = refl
before_left channel time end (s ∷ samples) v less = by_test (ltb s.at end) refl (λ k. before_left channel time end samples k less) ∙ sym (left-cons channel time s samples v)
  where
    by_test : (b : Bool) → ltb s.at end ≡ b → ((k : ℕ) → left channel time (before end samples) k ≡ left channel time samples k) →
        left channel time (cond b (s ∷ before end samples) (before end samples)) v ≡ left channel time samples (next channel time s v)
    by_test true e others = left-cons channel time s (before end samples) v ∙ others (next channel time s v)
    by_test false e others =
        let high = ltb-false s.at end e in
        let off : leb s.at time ≡ false = lt-leb s.at time (omega (arith, high, less)) in
        let same : next channel time s v ≡ v = ap (λ b. cond (eqb s.channel channel) (cond b s.value v) v) off ∙ either (eqb s.channel channel) v in
        others v ∙ ap (left channel time samples) (sym same)

-- values up to a state of the run, and those behind it
parts_left : (channel time at : ℕ) (samples : List Sample) (v : ℕ) → InOrder samples → left channel time (after at samples) (left channel time (up_to (λ s. s.at) at samples) v) ≡ left channel time samples v
parts_left channel time at [] v order = refl
parts_left channel time at (s ∷ samples) v order = by_test (leb s.at at) refl (λ k. parts_left channel time at samples k (order_rest s samples order))
  where
    by_test : (b : Bool) → leb s.at at ≡ b → ((k : ℕ) → left channel time (after at samples) (left channel time (up_to (λ x. x.at) at samples) k) ≡ left channel time samples k) →
        left channel time (after at (s ∷ samples)) (left channel time (up_to (λ x. x.at) at (s ∷ samples)) v) ≡ left channel time (s ∷ samples) v
    by_test true e others =
        let low = leb-true s.at at e in
        (λ i. left channel time (left_sooner at s samples low i) (left channel time (taken_sooner at s samples low i) v))
        ∙ ap (left channel time (after at samples)) (left-cons channel time s (up_to (λ x. x.at) at samples) v)
        ∙ others (next channel time s v)
        ∙ sym (left-cons channel time s samples v)
    by_test false e others =
        let none = none_sooner at s samples order (leb-false s.at at e) in
        (λ i. left channel time (all_behind at (s ∷ samples) none i) (left channel time (none i) v))

after_order : (at : ℕ) (samples : List Sample) → InOrder samples → InOrder (after at samples)
after_order at [] order = order
after_order at (s ∷ samples) order = by_test (leb s.at at) refl (after_order at samples (order_rest s samples order))
  where
    by_test : (b : Bool) → leb s.at at ≡ b → InOrder (after at samples) → InOrder (after at (s ∷ samples))
    by_test true e rest = subst InOrder (sym (left_sooner at s samples (leb-true s.at at e))) rest
    by_test false e rest = subst InOrder (sym (all_behind at (s ∷ samples) (none_sooner at s samples order (leb-false s.at at e)))) order

values_left : (channel time end : ℕ) (samples : List Sample) (changes : List Timed) (v : ℕ) → InOrder samples → time < end → NoValues changes →
    value_behind channel v (picked (λ at. leb at time) (with_values samples end changes)) ≡ left channel time samples v
unfolding with_values
values_left channel time end samples [] v order less h = taken_left channel time (before end samples) v ∙ before_left channel time end samples v less
values_left channel time end samples (c ∷ changes) v order less h =
    let test : ℕ → Bool = λ at. leb at time in
    let sooner = up_to (λ s. s.at) c.at samples in
    let rest = with_values (after c.at samples) end changes in
    ap (value_behind channel v) (picked-append test (taken sooner) (c ∷ rest))
    ∙ value-append channel v (picked test (taken sooner)) (picked test (c ∷ rest))
    ∙ ap (λ k. value_behind channel k (picked test (c ∷ rest))) (taken_left channel time sooner v)
    ∙ ap (value_behind channel (left channel time sooner v)) (picked-append test (c ∷ []) rest)
    ∙ value-append channel (left channel time sooner v) (picked test (c ∷ [])) (picked test rest)
    ∙ ap (λ k. value_behind channel k (picked test rest)) (one_other channel (left channel time sooner v) test c h.0)
    ∙ values_left channel time end (after c.at samples) changes (left channel time sooner v) (after_order c.at samples order) less h.1
    ∙ parts_left channel time c.at samples v order

pub value_timed : (channel time end : ℕ) (samples : List Sample) (changes : List Timed) → InOrder samples → time < end → NoValues changes →
    value_behind channel 0 (picked (λ at. leb at time) (timed_to samples end changes)) ≡ value_at samples channel time
value_timed channel time end samples changes order less h =
    let test : ℕ → Bool = λ at. leb at time in
    let all = with_values samples end changes in
    ap (value_behind channel 0) (picked-append test all (record { at = end; change = Unseen } ∷ []))
    ∙ value-append channel 0 (picked test all) (picked test (record { at = end; change = Unseen } ∷ []))
    ∙ one_other channel (value_behind channel 0 (picked test all)) test (record { at = end; change = Unseen }) refl
    ∙ values_left channel time end samples changes 0 order less h

-- ---- each state is before the end

pass_end : (base : ℕ) (states : List State) (rest : List Seen) → end_by base (passes states ++ rest) ≡ end_by base rest
unfolding end_by
pass_end base [] rest = refl
pass_end base (s ∷ states) rest = by s.whats (pass_end base states rest)
  where
    by : (whats : List What) → end_by base (passes states ++ rest) ≡ end_by base rest → end_by base (passes (record { at = s.at; whats = whats } ∷ states) ++ rest) ≡ end_by base rest
    by [] others = others
    by (w ∷ whats) others = others

end_later : (base : ℕ) (steps : List Seen) → base < 2 ^ 64 → base ≤ end_by base steps
unfolding end_by
end_later base [] few = omega arith
end_later base (Begins levels ∷ steps) few = end_later base steps few
end_later base (Passes state ∷ steps) few = end_later base steps few
end_later base (Ends last ∷ steps) few = let more = end_later (behind base last) steps (omega (arith, few)) in omega (arith, more, few)

pub spans_end : (d : Drives) (spans : List Span) (base from count t time : ℕ) (life : Life) → AreSpans from spans → base ≡ from → from ≤ 4000000000000000 →
    slice_get (span_lives d from spans) count ≡ Some life → t ≤ life.last → time ≡ base + (begin_of count (span_lives d from spans) + t) → time < end_by base (span_steps d from spans)
unfolding end_by
spans_end d [] base from count t time life h same low is within at = absurd cc
spans_end d (Lasts reported zero ∷ spans) base from count t time life h same low is within at =
    spans_end d spans base (from + 0) count t time life h.2 (omega (arith, same)) (omega (arith, low)) is within at
spans_end d (Lasts reported (suc last) ∷ spans) base from count t time life h same low is within at =
    subst (λ n. time < n) (sym end) (by_count count is at few (λ n. spans_end d spans (behind base last) (from + suc last) n t time life h.2))
  where
    few : from + suc last ≤ 4000000000000000
    few = h.0

    states : List State
    states = states_of d from reported last

    steps : List Seen
    steps = span_steps d (from + suc last) spans

    others : List Life
    others = span_lives d (from + suc last) spans

    this : Life
    this = record { start = start_levels d from; events = events_of states; last = last }

    end : end_by base (seen_of d from reported (suc last) ++ steps) ≡ end_by (behind base last) steps
    end = ap (end_by base) (append_assoc (passes states) (Ends last ∷ []) steps) ∙ pass_end base states (Ends last ∷ steps)

    by_count : (n : ℕ) → slice_get (this ∷ others) n ≡ Some life → time ≡ base + (begin_of n (this ∷ others) + t) → from + suc last ≤ 4000000000000000 →
        ((m : ℕ) → behind base last ≡ from + suc last → from + suc last ≤ 4000000000000000 → slice_get others m ≡ Some life → t ≤ life.last → time ≡ behind base last + (begin_of m others + t) → time < end_by (behind base last) steps) →
        time < end_by (behind base last) steps
    by_count zero is at few others_too =
        let here : this ≡ life = cc in
        let short : t ≤ last = subst (λ (x : Life). t ≤ x.last) (sym here) within in
        let more = end_later (behind base last) steps (omega arith) in
        omega (arith, more, short, at, few, same)
    by_count (suc n) is at few others_too =
        let next : behind base last ≡ from + suc last = omega (arith, same, few) in
        let all : begin_of (suc n) (this ∷ others) ≡ last + 1 + begin_of n others = begin_next n this others in
        others_too n next few is within (omega (arith, at, all, next, same))
