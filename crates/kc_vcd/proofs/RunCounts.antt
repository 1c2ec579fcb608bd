-- How often a dump has an event in a state of a life.
use Rattle.std.proofs.Common.{◌≡◌, ℕ, zero, suc, ◌+◌, ◌-◌, ◌^◌, ◌<◌, ◌≤◌, Bool, true, false, cond, ◌&&◌, eqb, Some, List, [], ◌∷◌, ◌++◌, filter, length, length-append, map, refl, sym, ap, subst, ◌∙◌, arith}
use Rattle.std.specs.Prelude.{slice_get}
use Rattle.std.proofs.lemmas.Bool.{eq-eqb, ne_eqb, eqb-true, eqb-false}
use Rattle.std.proofs.lemmas.List.Elements.{filter-append}
use Rattle.kc_base.specs.declared.types.Level.{Level}
use Rattle.kc_trace.specs.declared.life.Signal.{Signal}
use Rattle.kc_trace.specs.declared.life.What.{What}
use Rattle.kc_trace.specs.declared.life.What.TheVariants as what
use Rattle.kc_trace.specs.declared.life.Event.{Event}
use Rattle.kc_trace.specs.Lives.{Life, State, events_in, events_of}
use Rattle.kc_stim.specs.Drives.{Drives}
use Rattle.kc_events.specs.Grammar.{same_level}
use Rattle.kc_events.specs.Lives.{start_levels}
use Rattle.kc_vcd.specs.declared.change.Change.{Change}
use Rattle.kc_vcd.specs.declared.change.Change.TheVariants.{Moves, Happens}
use Rattle.kc_vcd.specs.declared.variable.Variable.{Variable}
use Rattle.kc_vcd.specs.declared.variable.Variable.TheVariants.{Wire, Analog, Entry, Transfer, Undefined}
use Rattle.kc_vcd.specs.declared.variable.Variable.TheVariants as variable
use Rattle.kc_base.specs.Limits.{entry_count, transfer_count}
use Rattle.kc_vcd.specs.Changes.{Timed, change_by, differences, all_at, later, behind, changes_by}
use Rattle.kc_vcd.specs.Laws.{IsKnownChange, is_happening, count_among}
use Rattle.kc_vcd.specs.Runs.{begin_of, is_entry, is_transfer, count_in}
use Rattle.kc_vcd.proofs.Spans.{Span, Lasts, span_steps, span_lives, AreSpans, AreStates, AreWhats, are_states}
use Rattle.kc_vcd.proofs.Picked.{picked, picked-append, picked-at, picked-late, life_changes, levels_over, states_of, begin_changes, span_changes, span_none}
use Rattle.kc_vcd.proofs.RunLevels.{begin_next}
use Rattle.kc_vcd.proofs.Valued.{count-append}

-- an event, and what it is of what happens
pub record Shows (event : Variable) (wanted : What → Bool) : Type 0 where
  pub whats : (w : What) → IsKnownChange (change_by w) → is_happening event (change_by w) ≡ wanted w
  pub life : is_happening event (Happens variable.Life) ≡ false

more_same : (k n m : ℕ) → eqb (k + n) (k + m) ≡ eqb n m
more_same k n m = by_test (eqb n m) refl
  where
    by_test : (b : Bool) → eqb n m ≡ b → eqb (k + n) (k + m) ≡ b
    by_test true e = eq-eqb (k + n) (k + m) (ap (λ x. k + x) (eqb-true n m e))
    by_test false e = ne_eqb (k + n) (k + m) (λ same. eqb-false n m e (omega (arith, same)))

entry_whats : (number : ℕ) → number < entry_count → (w : What) → IsKnownChange (change_by w) → is_happening (Entry number) (change_by w) ≡ is_entry number w
entry_whats number less (what.Edge signal level) known = refl
entry_whats number less (what.Entry n) known = more_same 57 n number
entry_whats number less (what.Transfer n) known = ne_eqb (75 + n) (57 + number) (λ same. omega (arith, same, less))
entry_whats number less what.Undefined known = ne_eqb 90 (57 + number) (λ same. omega (arith, same, less))
entry_whats number less what.Reset known = refl
entry_whats number less what.Watchdog known = refl
entry_whats number less what.Powerdown known = refl

pub entry_shows : (number : ℕ) → number < entry_count → Shows (Entry number) (is_entry number)
entry_shows number less = record { whats = entry_whats number less; life = ne_eqb 91 (57 + number) (λ same. omega (arith, same, less)) }

transfer_whats : (number : ℕ) → number < transfer_count → (w : What) → IsKnownChange (change_by w) → is_happening (Transfer number) (change_by w) ≡ is_transfer number w
transfer_whats number less (what.Edge signal level) known = refl
transfer_whats number less (what.Entry n) known = let few : n < entry_count = known.0 in ne_eqb (57 + n) (75 + number) (λ same. omega (arith, same, few))
transfer_whats number less (what.Transfer n) known = more_same 75 n number
transfer_whats number less what.Undefined known = ne_eqb 90 (75 + number) (λ same. omega (arith, same, less))
transfer_whats number less what.Reset known = refl
transfer_whats number less what.Watchdog known = refl
transfer_whats number less what.Powerdown known = refl

pub transfer_shows : (number : ℕ) → number < transfer_count → Shows (Transfer number) (is_transfer number)
transfer_shows number less = record { whats = transfer_whats number less; life = ne_eqb 91 (75 + number) (λ same. omega (arith, same, less)) }

module _ (event : Variable) (wanted : What → Bool) (shows : Shows event wanted) where
  -- ---- a life begins

  none_differ : (vs : List Variable) (old new : Signal → Level) → count_among event (differences vs old new) ≡ 0
  unfolding differences
  none_differ [] old new = refl
  none_differ (Wire signal ∷ vs) old new = by_test (same_level (old signal) (new signal)) (none_differ vs old new)
    where
      by_test : (b : Bool) → count_among event (differences vs old new) ≡ 0 → count_among event (cond b [] (Moves signal (new signal) ∷ []) ++ differences vs old new) ≡ 0
      by_test true rest = rest
      by_test false rest = rest
  none_differ (Analog channel ∷ vs) old new = none_differ vs old new
  none_differ (Entry number ∷ vs) old new = none_differ vs old new
  none_differ (Transfer number ∷ vs) old new = none_differ vs old new
  none_differ (Undefined ∷ vs) old new = none_differ vs old new
  none_differ (variable.Life ∷ vs) old new = none_differ vs old new

  none_begin : (vs : List Variable) (first : Bool) (old new : Signal → Level) → count_among event (begin_changes vs first old new) ≡ 0
  none_begin vs true old new = none_differ vs old new
  none_begin vs false old new =
      ap (λ b. length (cond b (Happens variable.Life ∷ filter (is_happening event) (differences vs old new)) (filter (is_happening event) (differences vs old new)))) shows.life ∙ none_differ vs old new

  none_begun : (test : ℕ → Bool) (vs : List Variable) (first : Bool) (base : ℕ) (old new : Signal → Level) → count_among event (picked test (all_at base (begin_changes vs first old new))) ≡ 0
  none_begun test vs first base old new = ap (count_among event) (picked-at test base (begin_changes vs first old new)) ∙ by_test (test base)
    where
      by_test : (b : Bool) → count_among event (cond b (begin_changes vs first old new) []) ≡ 0
      by_test true = none_begin vs first old new
      by_test false = refl

  -- ---- its states

  whats_count : (whats : List What) → AreWhats whats → count_among event (map change_by whats) ≡ length (filter wanted whats)
  whats_count [] h = refl
  whats_count (w ∷ whats) h =
      ap (λ b. length (cond b (change_by w ∷ filter (is_happening event) (map change_by whats)) (filter (is_happening event) (map change_by whats)))) (shows.whats w h.0) ∙ by_test (wanted w) (whats_count whats h.1)
    where
      by_test : (b : Bool) → count_among event (map change_by whats) ≡ length (filter wanted whats) →
          length (cond b (change_by w ∷ filter (is_happening event) (map change_by whats)) (filter (is_happening event) (map change_by whats))) ≡ length (cond b (w ∷ filter wanted whats) (filter wanted whats))
      by_test true rest = ap suc rest
      by_test false rest = rest

  either_count : (b : Bool) (whats : List What) → AreWhats whats → count_among event (cond b (map change_by whats) []) ≡ length (cond b (filter wanted whats) [])
  either_count true whats h = whats_count whats h
  either_count false whats h = refl

  events_count : (t at : ℕ) (whats : List What) → length (filter (λ (e : Event). eqb e.at t && wanted e.what) (events_in at whats)) ≡ length (cond (eqb at t) (filter wanted whats) [])
  events_count t at [] = none (eqb at t)
    where
      none : (b : Bool) → 0 ≡ length (cond {A = List What} b [] [])
      none true = refl
      none false = refl
  events_count t at (w ∷ whats) = by_test (eqb at t) (wanted w) (events_count t at whats)
    where
      by_test : (b k : Bool) → length (filter (λ (e : Event). eqb e.at t && wanted e.what) (events_in at whats)) ≡ length (cond b (filter wanted whats) []) →
          length (cond (b && k) (record { at = at; what = w } ∷ filter (λ (e : Event). eqb e.at t && wanted e.what) (events_in at whats)) (filter (λ (e : Event). eqb e.at t && wanted e.what) (events_in at whats)))
          ≡ length (cond b (cond k (w ∷ filter wanted whats) (filter wanted whats)) [])
      by_test true true rest = ap suc rest
      by_test true false rest = rest
      by_test false k rest = rest

  same_test : (a b c d : ℕ) → (a ≡ b → c ≡ d) → (c ≡ d → a ≡ b) → eqb a b ≡ eqb c d
  same_test a b c d to from = by_test (eqb c d) refl
    where
      by_test : (k : Bool) → eqb c d ≡ k → eqb a b ≡ k
      by_test true e = eq-eqb a b (from (eqb-true c d e))
      by_test false e = ne_eqb a b (λ same. eqb-false c d e (to same))

  -- in a state of the life
  life_count : (base t time last : ℕ) (states : List State) → time ≡ base + t → base + last < 2 ^ 64 - 1 → AreStates last states →
      count_among event (picked (λ at. eqb at time) (life_changes base states)) ≡ length (filter (λ (e : Event). eqb e.at t && wanted e.what) (events_of states))
  life_count base t time last [] there few h = refl
  life_count base t time last (s ∷ states) there few h =
      let within : s.at ≤ last = h.0 in
      let at = later base s.at in
      let now = map change_by s.whats in
      let test : eqb at time ≡ eqb s.at t = same_test at time s.at t (λ same. omega (arith, same, there, few, within)) (λ same. omega (arith, same, there, few, within)) in
      let counted : Event → Bool = λ e. eqb e.at t && wanted e.what in
      ap (count_among event) (picked-append (λ at. eqb at time) (all_at at now) (life_changes base states))
      ∙ count-append event (picked (λ at. eqb at time) (all_at at now)) (picked (λ at. eqb at time) (life_changes base states))
      ∙ (λ i. (ap (count_among event) (picked-at (λ at. eqb at time) at now ∙ ap (λ b. cond b now []) test) ∙ either_count (eqb s.at t) s.whats h.1 ∙ sym (events_count t s.at s.whats)) i + life_count base t time last states there few h.2 i)
      ∙ sym (length-append (filter counted (events_in s.at s.whats)) (filter counted (events_of states)))
      ∙ ap length (sym (filter-append counted (events_in s.at s.whats) (events_of states)))

  -- before it
  life_past : (base time last : ℕ) (states : List State) → base + last < time → base + last < 2 ^ 64 - 1 → AreStates last states → picked (λ at. eqb at time) (life_changes base states) ≡ []
  life_past base time last [] past few h = refl
  life_past base time last (s ∷ states) past few h =
      let within : s.at ≤ last = h.0 in
      let at = later base s.at in
      let now = map change_by s.whats in
      picked-append (λ at. eqb at time) (all_at at now) (life_changes base states)
      ∙ (λ i. (picked-at (λ at. eqb at time) at now ∙ ap (λ b. cond b now []) (ne_eqb at time (λ same. omega (arith, same, past, few, within)))) i ++ life_past base time last states past few h.2 i)

  -- ---- a run

  pub spans_count : (vs : List Variable) (d : Drives) (spans : List Span) (first : Bool) (base from count t time : ℕ) (levels : Signal → Level) (life : Life) → AreSpans from spans → base ≡ from → from ≤ 4000000000000000 →
      slice_get (span_lives d from spans) count ≡ Some life → t ≤ life.last → time ≡ base + (begin_of count (span_lives d from spans) + t) →
      count_among event (picked (λ at. eqb at time) (changes_by vs first base levels (span_steps d from spans))) ≡ count_in wanted t life
  spans_count vs d [] first base from count t time levels life h same low is within at = absurd cc
  spans_count vs d (Lasts reported zero ∷ spans) first base from count t time levels life h same low is within at =
      let new = start_levels d from in
      let head = all_at base (begin_changes vs first levels new) in
      let rest = changes_by vs false base new (span_steps d (from + 0) spans) in
      let test : ℕ → Bool = λ k. eqb k time in
      let others = spans_count vs d spans false base (from + 0) count t time new life h.2 (omega (arith, same)) (omega (arith, low)) is within at in
      ap (λ (cs : List Timed). count_among event (picked test cs)) (span_none vs first base levels d from reported (span_steps d (from + 0) spans))
      ∙ ap (count_among event) (picked-append test head rest)
      ∙ plain (count_among event (picked test head ++ picked test rest)) (count_among event (picked test head)) (count_among event (picked test rest)) (count-append event (picked test head) (picked test rest)) (none_begun test vs first base levels new)
      ∙ others
    where
      plain : (all one two : ℕ) → all ≡ one + two → one ≡ 0 → all ≡ two
      plain all one two a b = omega (arith, a, b)
  spans_count vs d (Lasts reported (suc last) ∷ spans) first base from count t time levels life h same low is within at =
      let new = start_levels d from in
      let states = states_of d from reported last in
      let known = are_states d from reported (suc last) 0 last new h.1 (omega arith) in
      let head = all_at base (begin_changes vs first levels new) in
      let middle = life_changes base states in
      let steps = span_steps d (from + suc last) spans in
      let after = levels_over new states in
      let rest = changes_by vs false (behind base last) after steps in
      let test : ℕ → Bool = λ k. eqb k time in
      let few : from + suc last ≤ 4000000000000000 = h.0 in
      ap (λ (cs : List Timed). count_among event (picked test cs)) (span_changes vs first base levels d from reported last steps)
      ∙ ap (count_among event) (picked-append test head (middle ++ rest) ∙ ap (λ (cs : List Change). picked test head ++ cs) (picked-append test middle rest))
      ∙ plain (count_among event (picked test head ++ (picked test middle ++ picked test rest))) (count_among event (picked test head)) (count_among event (picked test middle ++ picked test rest))
      (count-append event (picked test head) (picked test middle ++ picked test rest)) (none_begun test vs first base levels new)
      ∙ count-append event (picked test middle) (picked test rest)
      ∙ by_count count is at known few (λ n. spans_count vs d spans false (behind base last) (from + suc last) n t time after life h.2)
    where
      plain : (all one two : ℕ) → all ≡ one + two → one ≡ 0 → all ≡ two
      plain all one two a b = omega (arith, a, b)

      new : Signal → Level
      new = start_levels d from

      states : List State
      states = states_of d from reported last

      others : List Life
      others = span_lives d (from + suc last) spans

      rest : List Timed
      rest = changes_by vs false (behind base last) (levels_over new states) (span_steps d (from + suc last) spans)

      this : Life
      this = record { start = new; events = events_of states; last = last }

      by_count : (n : ℕ) → slice_get (this ∷ others) n ≡ Some life → time ≡ base + (begin_of n (this ∷ others) + t) → AreStates last states → from + suc last ≤ 4000000000000000 →
          ((m : ℕ) → behind base last ≡ from + suc last → from + suc last ≤ 4000000000000000 → slice_get others m ≡ Some life → t ≤ life.last → time ≡ behind base last + (begin_of m others + t) →
          count_among event (picked (λ k. eqb k time) rest) ≡ count_in wanted t life) →
          count_among event (picked (λ k. eqb k time) (life_changes base states)) + count_among event (picked (λ k. eqb k time) rest) ≡ count_in wanted t life
      by_count zero is at known few others_too =
          let here : this ≡ life = cc in
          let short : t ≤ last = subst (λ (x : Life). t ≤ x.last) (sym here) within in
          let time_is : time ≡ base + t = omega (arith, at) in
          let late = ap (count_among event) (picked-late (λ k. eqb k time) vs false (behind base last) (levels_over new states) (span_steps d (from + suc last) spans) (λ k more. ne_eqb k time (λ is_now. omega (arith, more, is_now, time_is, short, few, same))) (omega arith)) in
          let now = life_count base t time last states time_is (omega (arith, few, same)) known in
          ends (count_among event (picked (λ k. eqb k time) (life_changes base states))) (count_among event (picked (λ k. eqb k time) rest)) late ∙ now ∙ ap (λ (x : Life). count_in wanted t x) here
        where
          ends : (one two : ℕ) → two ≡ 0 → one + two ≡ one
          ends one two none = omega (arith, none)
      by_count (suc n) is at known few others_too =
          let next : behind base last ≡ from + suc last = omega (arith, same, few) in
          let all : begin_of (suc n) (this ∷ others) ≡ last + 1 + begin_of n others = begin_next n this others in
          ap (λ (cs : List Change). count_among event cs + count_among event (picked (λ k. eqb k time) rest)) (life_past base time last states (omega (arith, at, all)) (omega (arith, few, same)) known)
          ∙ starts (count_among event (picked (λ k. eqb k time) rest))
          ∙ others_too n next few is within (omega (arith, at, all, next, same))
        where
          starts : (one : ℕ) → 0 + one ≡ one
          starts one = omega arith
