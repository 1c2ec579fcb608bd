-- A life on its way: so many states have passed since a command began, and the deadline has not gone by.
use Rattle.std.proofs.Common.{◌≡◌, ◌≢◌, ℕ, zero, suc, ◌+◌, ◌-◌, ◌*◌, ◌<◌, ◌≤◌, min, max, Bool, true, false, eqb, nat_lt, List, [], ◌++◌, Option, Some, None, Result, Ok, IfOk, ◌⊎◌, inl, inr, refl, sym, ◌∙◌, ap, subst, append_assoc, arith, IfSome, unwrap_or}
use Rattle.std.proofs.lemmas.Bool.{cases_lt}
use Rattle.std.proofs.lemmas.Bool.Decides.{nat_tests}
use Rattle.circular_buffer.specs.Buffer.{Buffer, buffer, keep_last}
use Rattle.kc_extra.specs.Further.{Further}
use Rattle.kc_trace.specs.declared.record.Record.{Record}
use Rattle.kc_trace.specs.Counting.{counted_all}
use Rattle.kc_trace.specs.Out.{Out, Puts}
use Rattle.kc_trace.specs.declared.trace.WriteFault.{WriteFault}
use Rattle.kc_trace.specs.Text.{text_of}
use Rattle.kc_machine_spec.specs.declared.doing.End.{End}
use Rattle.kc_machine_spec.specs.declared.doing.End.TheVariants as end
use Rattle.kc_machine_spec.specs.declared.doing.UnderWay.{UnderWay}
use Rattle.kc_machine_spec.specs.Text.{HasRun}
use Rattle.kc_machine_spec.specs.Machine.{Machine, Stepped, current}
use Rattle.kc_machine_spec.specs.Passing.{passed}
use Rattle.kc_machine_spec.specs.Run.{and_then, end_of, run_for}
use Rattle.kc_machine_spec.proofs.Runs.{run_for-ended, run_for-add, run_for-cut, run-none, machine-add}
use Rattle.kc_cycles.specs.Watching.{patience}
use Rattle.kc_cycles.specs.Life.{Life, is_at, goes_on, life_for}
use Rattle.kc_cycles.specs.Spans.{end_of_span}
use Rattle.kc_cycles.proofs.Going.{Feeds, InSpan, IsSpanEnd, span-first, span-run, nothing-before, before-same, life-span, IsLeft, Ends, ends-over, ends-bitten, ends-lines, cut-lines}
use Rattle.kc_debug.specs.declared.activities.Begun.{Begun}
use Rattle.kc_debug.specs.Activities.{begun_for}
use Rattle.kc_debug.specs.Debugging.{is_before, IsInTime, IsAhead, how_of, IsPart, IsClearFor, PassesInLife, HasLived}
use Rattle.kc_debug.specs.Passing.{AreAtOnce, IsKept, IsClear, Passed, Reported, Stood}
use Rattle.kc_debug.specs.Stops.{Stopping, noted_for, states_of_activities, states_to_stop, states_until, stops_behind}
use Rattle.kc_debug.proofs.Begins.{states-none, states-more, noted-none, noted-add, behind-add, calm-there, stop-any, stop-none, stop-past, stop-some, stop-there}
use Rattle.kc_debug.proofs.Passing.{Along, along-first, along-lines, along-next, ran, activity-reported, activity-stood}

-- ---- tests of the deadline

lt-true : (a b : ℕ) → nat_lt a b ≡ true → a < b
lt-true a b e = grind (arith, nat_tests, e)

lt-false : (a b : ℕ) → nat_lt a b ≡ false → b ≤ a
lt-false a b e = grind (arith, nat_tests, e)

-- it has not come
pub ahead : (o : Option ℕ) (now : ℕ) → IsInTime o now → is_at o now ≡ false → IsAhead o now
ahead None now h e = tt
ahead (Some at) now h e =
    let other : at ≢ now = λ same. absurd (let yes : eqb at now ≡ true = grind (arith, nat_tests) in let c : true ≡ false = sym yes ∙ e in cc) in
    (h.0, omega (arith, h.1, other), h.2)

-- where it has come, states have passed
pub late-run : (o : Option ℕ) (now : ℕ) → IsInTime o now → is_at o now ≡ true → 0 < now
late-run None now h e = absurd (let c : false ≡ true = e in cc)
late-run (Some at) now h e = let same : at ≡ now = grind (arith, nat_tests) in omega (arith, h.0, same)

-- it comes before the end of an activity, which has two states or more then
pub cut-states : (o : Option ℕ) (now end left : ℕ) (b : Bool) → IsAhead o now → b ≡ is_before o end → b ≡ true → end ≡ now + left → 1 < left
cut-states None now end left b h is e sum = absurd (let c : true ≡ false = sym e ∙ is in cc)
cut-states (Some at) now end left b h is e sum = let less : at < end = lt-true at end (sym is ∙ e) in omega (arith, h.1, less, sum)

pub cut-within : (o : Option ℕ) (now : ℕ) → IsAhead o now → (at : ℕ) → o ≡ Some at → now + 1 ≤ at
cut-within None now h at e = absurd (let c : None ≡ Some at = e in cc)
cut-within (Some d) now h at e = let same : d ≡ at = cc in omega (arith, h.1, same)

-- or it does not
pub whole-within : (o : Option ℕ) (now end left : ℕ) (b : Bool) → b ≡ is_before o end → b ≡ false → end ≡ now + left → (at : ℕ) → o ≡ Some at → now + left ≤ at
whole-within None now end left b is e sum at h = absurd (let c : None ≡ Some at = h in cc)
whole-within (Some d) now end left b is e sum at h = let same : d ≡ at = cc in let le : end ≤ d = lt-false d end (sym is ∙ e) in omega (arith, le, sum, same)

-- ---- a span in which it does not come

span-clear : (o : Option ℕ) (now until a : ℕ) → IsInTime o now → a ≤ end_of_span now o until - now → (a ≤ patience) × ((at : ℕ) → o ≡ Some at → now + a ≤ at)
span-clear None now until a h few = (omega (arith, few), λ at e. absurd (let c : None ≡ Some at = e in cc))
span-clear (Some d) now until a h few = (omega (arith, few, h.2), λ at e. let same : d ≡ at = cc in omega (arith, few, h.1, same))

span-goes : (o : Option ℕ) (now until : ℕ) → IsAhead o now → now < until → now < end_of_span now o until
span-goes None now until h less = omega (arith, less)
span-goes (Some d) now until h less = omega (arith, less, h.1)

span-within : (o : Option ℕ) (now until : ℕ) → end_of_span now o until ≤ until
span-within None now until = omega arith
span-within (Some d) now until = omega arith

pub stop-goes : (o due : Option ℕ) (t now until stop : ℕ) → stop ≡ end_of_span now due until → now ≡ t → due ≡ o → IsAhead o t → t < until → t < stop
stop-goes o due t now until stop is at_now at_due h less =
    let same : stop ≡ end_of_span t o until = is ∙ ap (λ n. end_of_span n due until) at_now ∙ ap (λ d. end_of_span t d until) at_due in
    let goes = span-goes o t until h less in
    omega (arith, same, goes)

pub stop-within : (due : Option ℕ) (now until stop : ℕ) → stop ≡ end_of_span now due until → stop ≤ until
stop-within due now until stop is = let le = span-within due now until in omega (arith, is, le)

-- a machine that is reset or powered down has run
end-run : {X : Type 0} (m : Machine X) → IfSome m.ended (λ how. HasRun how m.time) → HasRun (end_of m) m.time
end-run m run = by_end m.ended refl
  where
    by_end : (o : Option End) → m.ended ≡ o → HasRun (end_of m) m.time
    by_end None e = subst (λ o. HasRun (unwrap_or o end.Spent) m.time) (sym e) tt
    by_end (Some how) e = subst (λ o. HasRun (unwrap_or o end.Spent) m.time) (sym e) (subst (λ o. IfSome o (λ h. HasRun h m.time)) e run)

how-run : {X : Type 0} (late : Bool) (m : Machine X) → IfSome m.ended (λ how. HasRun how m.time) → (late ≡ true → 0 < m.time) → HasRun (how_of late m) m.time
how-run true m run some = some refl
how-run false m run some = end-run m run

-- ---- what comes before a life

same_stepped : {X : Type 0} (m : Machine X) (xs ys : List Record) (v w : ℕ) → xs ≡ ys → v ≡ w → ◌≡◌ {A = Stepped X} (record { machine = m; records = xs; touch = v }) (record { machine = m; records = ys; touch = w })
same_stepped m xs ys v w h g = ap (λ l. record { machine = m; records = l; touch = v }) h ∙ ap (λ n. record { machine = m; records = ys; touch = n }) g

before-more : {X : Type 0} (s : Stepped X) (r : Machine X → Stepped X) (rest : Machine X → Life X) → goes_on s (λ m. goes_on (r m) rest) ≡ goes_on (and_then s r) rest
before-more {X} s r rest =
    let mid : Stepped X = r s.machine in
    let life : Life X = rest mid.machine in
    ap (λ (ran : Stepped X). record life { ran = ran }) (same_stepped life.ran.machine (s.records ++ (mid.records ++ life.ran.records)) ((s.records ++ mid.records) ++ life.ran.records) (s.touch + (mid.touch + life.ran.touch)) ((s.touch + mid.touch) + life.ran.touch)
    (sym (append_assoc s.records mid.records life.ran.records)) (let e : s.touch + (mid.touch + life.ran.touch) ≡ (s.touch + mid.touch) + life.ran.touch = omega arith in e))

module _ {X : Type 0} (f : Further X) where
  -- a machine that has ended or lives, and goes on
  ran-any : (n : ℕ) (m x : Machine X) → x ≡ (run_for f n m).machine → IfSome m.ended (λ how. HasRun how m.time) → IfSome x.ended (λ how. HasRun how x.time)
  ran-any n m x is run = by_end m.ended refl
    where
      by_end : (o : Option End) → m.ended ≡ o → IfSome x.ended (λ how. HasRun how x.time)
      by_end None e = ran f n m x is e
      by_end (Some how) e =
          let same : m ≡ x = sym (is ∙ ap (λ (s : Stepped X). s.machine) (run_for-ended f n m how e)) in
          subst (λ (k : Machine X). IfSome k.ended (λ h. HasRun h k.time)) same run

  -- of the states of activities, some of the first one have passed
  states-part : (a left : ℕ) (m n : Machine X) → m.ended ≡ None → 0 < left → 0 < a → a < (current m).left → n ≡ (run_for f a m).machine →
      (states_of_activities f left m ≡ a + states_of_activities f left n) × ((current n).left ≡ (current m).left - a)
  states-part a left m n lives many some less is =
      let c : UnderWay = current m in
      let there : run_for f a m ≡ passed f m c a = run_for-cut f a m c lives refl some less in
      let fewer : (current n).left ≡ c.left - a = ap (λ (x : Machine X). (current x).left) (is ∙ ap (λ (s : Stepped X). s.machine) there) in
      let sum : c.left ≡ a + (c.left - a) = omega (arith, less) in
      let over : Machine X = (run_for f c.left m).machine in
      let same : over ≡ (run_for f (current n).left n).machine =
      ap (λ k. (run_for f k m).machine) sum ∙ machine-add f a (c.left - a) m ∙ ap (λ x. (run_for f (c.left - a) x).machine) (sym is) ∙ ap (λ k. (run_for f k n).machine) (sym fewer) in
      let one : left ≡ suc (left - 1) = omega (arith, many) in
      let first = states-more f left (left - 1) m over one refl in
      let second = states-more f left (left - 1) n over one same in
      (omega (arith, first, second, fewer, less), fewer)

  -- ---- room for activities, of which the present one may have begun before

  pub record HasRoom (m0 : Machine X) (count left : ℕ) (m : Machine X) : Type 0 where
    -- so many states of it have passed
    pub gone : ℕ
    pub time : m.time + 255 * left ≤ m0.time + 255 * count + gone
    pub part : 0 < gone → (gone + (current m).left ≤ 255) × (0 < (current m).left) × (0 < left)

  pub room-first : (count : ℕ) (m : Machine X) → HasRoom m count count m
  room-first count m = record { gone = 0; time = omega arith; part = λ some. absurd (omega (arith, some)) }

  pub room-time : (m0 : Machine X) (count left : ℕ) (m : Machine X) → HasRoom m0 count left m → m.time ≤ m0.time + 255 * count
  room-time m0 count left m room = elim (cases_lt 0 room.gone) [
    | inl some ↦ let part = room.part some in omega (arith, room.time, part)
    | inr none ↦ omega (arith, room.time, none)
  ]

  pub room-some : (m0 : Machine X) (count left : ℕ) (m : Machine X) → HasRoom m0 count left m → 0 < left → m.time < m0.time + 255 * count
  room-some m0 count left m room many = elim (cases_lt 0 room.gone) [
    | inl some ↦ let part = room.part some in omega (arith, room.time, part, many)
    | inr none ↦ omega (arith, room.time, none, many)
  ]

  -- and for all of it
  pub room-whole : (m0 : Machine X) (count left : ℕ) (m : Machine X) → HasRoom m0 count left m → 0 < left → (current m).left ≤ 255 → m.time + (current m).left + 255 * (left - 1) ≤ m0.time + 255 * count
  room-whole m0 count left m room many short = elim (cases_lt 0 room.gone) [
    | inl some ↦ let part = room.part some in omega (arith, room.time, part, many, short)
    | inr none ↦ omega (arith, room.time, none, many, short)
  ]

  room-over : (m0 : Machine X) (count left : ℕ) (m n : Machine X) → HasRoom m0 count left m → 0 < left → (current m).left ≤ 255 → n.time ≡ m.time + (current m).left → HasRoom m0 count (left - 1) n
  room-over m0 count left m n room many short time =
      let whole = room-whole m0 count left m room many short in
      record { gone = 0; time = omega (arith, whole, time); part = λ some. absurd (omega (arith, some)) }

  room-part : (m0 : Machine X) (count left a : ℕ) (m n : Machine X) → HasRoom m0 count left m → 0 < left → (current m).left ≤ 255 → n.time ≡ m.time + a → a < (current m).left → (current n).left ≡ (current m).left - a →
      HasRoom m0 count left n
  room-part m0 count left a m n room many short time less fewer = record {
    gone = room.gone + a;
    time = omega (arith, room.time, time);
    part = λ some. (fits, omega (arith, less, fewer), many);
  }
    where
      fits : room.gone + a + (current n).left ≤ 255
      fits = elim (cases_lt 0 room.gone) [
        | inl some ↦ let part = room.part some in omega (arith, part, less, fewer)
        | inr none ↦ omega (arith, none, less, fewer, short)
      ]

module _ {X : Type 0} (f : Further X) (deadline : X → Option ℕ) where
  pub clear-span : (m : Machine X) (due : Option ℕ) (now until stop a : ℕ) → IsInTime (deadline m.board.units.further) m.time → stop ≡ end_of_span now due until → now ≡ m.time → due ≡ deadline m.board.units.further → a ≤ stop - m.time →
      IsClearFor f deadline a m
  clear-span m due now until stop a in_time is at_now at_due few =
      let o : Option ℕ = deadline m.board.units.further in
      let same : stop ≡ end_of_span m.time o until = is ∙ ap (λ n. end_of_span n due until) at_now ∙ ap (λ d. end_of_span m.time d until) at_due in
      let both = span-clear o m.time until a in_time (omega (arith, few, same)) in
      record { few = both.0; within = both.1 }

  -- one state of an activity has passed, before whose end the deadline comes; the machine is the one of before
  pub passes-state : (m k : Machine X) (o : Out) (r : Buffer Begun) (result : Result ℕ WriteFault) (n : Machine X) (p : Out) (q : Buffer Begun) (u : UnderWay) (due : Option ℕ) (end left : ℕ) (b : Bool) → k ≡ m → IsAhead (deadline m.board.units.further) m.time →
      u ≡ current m → left ≡ u.left → left ≤ 255 → due ≡ deadline k.board.units.further → end ≡ k.time + left → b ≡ is_before due end → b ≡ true → Passed f 1 k o r n p q → (1 < (current m).left → IfOk result (λ a. IsPart a 1 (current m).left)) →
      PassesInLife f deadline m o r result n p q
  passes-state m k o r result n p q u due end left b same h at_u at_left short at_due sum is e one part =
      let number : left ≡ (current m).left = at_left ∙ ap (λ (w : UnderWay). w.left) at_u in
      let all : end ≡ m.time + left = sum ∙ ap (λ (x : Machine X). x.time + left) same in
      let before : b ≡ is_before (deadline m.board.units.further) end = is ∙ ap (λ d. is_before d end) (at_due ∙ ap (λ (x : Machine X). deadline x.board.units.further) same) in
      let many : 1 < left = cut-states (deadline m.board.units.further) m.time end left b h before e all in
      record {
        states = 1;
        passed = subst (λ (x : Machine X). Passed f 1 x o r n p q) same one;
        few = omega (arith, many, number);
        short = omega (arith, short, number);
        clear = record { few = omega arith; within = cut-within (deadline m.board.units.further) m.time h };
        part = part (omega (arith, many, number));
      }

  -- all of it have
  pub passes-whole : (m k : Machine X) (o : Out) (r : Buffer Begun) (result : Result ℕ WriteFault) (n : Machine X) (p : Out) (q : Buffer Begun) (u : UnderWay) (due : Option ℕ) (end left : ℕ) (b : Bool) → k ≡ m →
      u ≡ current m → left ≡ u.left → left ≤ 255 → due ≡ deadline k.board.units.further → end ≡ k.time + left → b ≡ is_before due end → b ≡ false → Passed f (current k).left k o r n p q → IfOk result (λ a. IsPart a (current m).left (current m).left) →
      PassesInLife f deadline m o r result n p q
  passes-whole m k o r result n p q u due end left b same at_u at_left short at_due sum is e all part =
      let number : left ≡ (current m).left = at_left ∙ ap (λ (w : UnderWay). w.left) at_u in
      let there : end ≡ m.time + (current m).left = sum ∙ ap (λ (x : Machine X). x.time + left) same ∙ ap (λ i. m.time + i) number in
      let before : b ≡ is_before (deadline m.board.units.further) end = is ∙ ap (λ d. is_before d end) (at_due ∙ ap (λ (x : Machine X). deadline x.board.units.further) same) in
      record {
        states = (current m).left;
        passed = subst (λ (x : Machine X). Passed f (current x).left x o r n p q) same all;
        few = omega arith;
        short = omega (arith, short, number);
        clear = record { few = omega (arith, short, number); within = whole-within (deadline m.board.units.further) m.time end (current m).left b before e there };
        part = part;
      }

  left-first : (total : ℕ) (m : Machine X) → IsLeft f deadline total m 0 0
  left-first total m =
      let all : total ≡ total - 0 = omega arith in
      ap (λ n. life_for f deadline n m) all
      ∙ sym (ap (λ (s : Stepped X). goes_on s (life_for f deadline (total - 0))) (run-none f m) ∙ nothing-before f deadline m (life_for f deadline (total - 0)))

  -- so many states of a life have passed
  pub record Living (total : ℕ) (m0 : Machine X) (o0 : Out) (r0 : Buffer Begun) (states : ℕ) (m : Machine X) (o : Out) (r : Buffer Begun) : Type 0 where
    pub along : Along f m0 o0 r0 states m o r
    pub left : IsLeft f deadline total m0 states states
    pub time : m.time ≡ m0.time + states
    pub in_time : IsInTime (deadline m.board.units.further) m.time
    pub unbroken : o.failed ≡ false

  pub living-first : (total : ℕ) (m : Machine X) (o : Out) (r : Buffer Begun) → IsKept r → IsInTime (deadline m.board.units.further) m.time → o.failed ≡ false → Living total m o r 0 m o r
  living-first total m o r kept in_time unbroken = record {
    along = along-first f m o r kept;
    left = left-first total m;
    time = omega arith;
    in_time = in_time;
    unbroken = unbroken;
  }

  -- ---- its end

  module _ (total : ℕ) (m0 : Machine X) (o0 : Out) (r0 : Buffer Begun) (i : ℕ) (m : Machine X) (o : Out) (r : Buffer Begun) (l : Living total m0 o0 r0 i m o r) where
    pub living-lines : (late : Bool) → Ends f deadline total m0 i m (how_of late m) late → Puts o0 (text_of (life_for f deadline total m0).ran.records) o
    living-lines late ends = ends-lines f deadline total m0 i m (how_of late m) late o0 o ends l.along.lines.text

    pub living-counts : (late : Bool) → Ends f deadline total m0 i m (how_of late m) late → o.counts ≡ counted_all (life_for f deadline total m0).ran.records o0.counts
    living-counts late ends = l.along.lines.counts l.unbroken ∙ ap (λ items. counted_all items o0.counts) ends.records

    -- it has ended, or its states are spent
    pub living-over : ((how : End) × (m.ended ≡ Some how)) ⊎ (total ≤ i) → Ends f deadline total m0 i m (how_of false m) false
    living-over which = ends-over f deadline total m0 i i m l.left l.along.machine which

    -- the deadline has come
    pub living-late : i < total → m.ended ≡ None → is_at (deadline m.board.units.further) m.time ≡ true → Ends f deadline total m0 i m (how_of true m) true
    living-late more lives due = ends-bitten f deadline total m0 i i m l.left l.along.machine more lives due

    pub living-lived : (late : Bool) → Ends f deadline total m0 i m (how_of late m) late → IfSome m0.ended (λ how. HasRun how m0.time) → (late ≡ true → 0 < m.time) → HasLived f deadline total m0 r0 late m r
    living-lived late ends run some =
        let states : i ≡ m.time - m0.time = omega (arith, l.time) in
        let runs : IfSome m.ended (λ how. HasRun how m.time) = ran-any f i m0 m l.along.machine run in
        record {
          by_watchdog = ends.by_watchdog;
          how = ends.how;
          machine = ends.machine;
          begun = l.along.begun ∙ ap (λ k. buffer (keep_last r0.capacity (r0.items ++ begun_for f k m0)) r0.capacity) states;
          in_time = l.in_time;
          ran = runs;
          has_run = how-run late m runs some;
        }

  -- ---- some states more

  module _ (feeds : Feeds deadline f) where
    span-of : (a : ℕ) (m : Machine X) → IsClearFor f deadline a m → IsSpanEnd deadline m.time (deadline m.board.units.further) (m.time + a)
    span-of a m clear = record { few = omega (arith, clear.few); within = λ at e. clear.within at e }

    left-more : (total i a : ℕ) (m0 m : Machine X) → IsLeft f deadline total m0 i i → m ≡ (run_for f i m0).machine → a ≤ total - i → IsClearFor f deadline a m → IsLeft f deadline total m0 (i + a) (i + a)
    left-more total i a m0 m left is few clear =
        let rest : total - i ≡ a + (total - (i + a)) = omega (arith, few) in
        let goes : life_for f deadline (total - i) (run_for f i m0).machine ≡ goes_on (run_for f a (run_for f i m0).machine) (life_for f deadline (total - (i + a))) =
        subst (λ n. life_for f deadline (total - i) n ≡ goes_on (run_for f a n) (life_for f deadline (total - (i + a)))) is
        (ap (λ n. life_for f deadline n m) rest
        ∙ life-span f deadline feeds m.time (deadline m.board.units.further) (m.time + a) a (total - (i + a)) m (span-of a m clear) (span-first deadline m) (omega arith)) in
        left
        ∙ before-same f deadline (run_for f i m0) (life_for f deadline (total - i)) (λ n. goes_on (run_for f a n) (life_for f deadline (total - (i + a)))) goes
        ∙ before-more (run_for f i m0) (run_for f a) (life_for f deadline (total - (i + a)))
        ∙ sym (ap (λ (s : Stepped X). goes_on s (life_for f deadline (total - (i + a)))) (run_for-add f i a m0))

    in-time-more : (a : ℕ) (m n : Machine X) → IsInTime (deadline m.board.units.further) m.time → IsClearFor f deadline a m → n ≡ (run_for f a m).machine → n.time ≡ m.time + a → IsInTime (deadline n.board.units.further) n.time
    in-time-more a m n in_time clear is time = by_due there.due
      where
        there : InSpan deadline m.time (deadline m.board.units.further) n
        there = subst (λ (x : Machine X). InSpan deadline m.time (deadline m.board.units.further) x) (sym is) (span-run f deadline feeds m.time (deadline m.board.units.further) a m (span-first deadline m))

        by_first : (o : Option ℕ) → IsInTime o m.time → ((at : ℕ) → o ≡ Some at → m.time + a ≤ at) → IsInTime o n.time
        by_first None h within = tt
        by_first (Some at) h within = let le : m.time + a ≤ at = within at refl in (h.0, omega (arith, le, time), omega (arith, h.2, time))

        by_due : (deadline n.board.units.further ≡ deadline m.board.units.further) ⊎ ((at : ℕ) × (deadline n.board.units.further ≡ Some at) × (m.time + patience ≤ at) × (at < n.time + patience)) → IsInTime (deadline n.board.units.further) n.time
        by_due (inl e) = subst (λ o. IsInTime o n.time) (sym e) (by_first (deadline m.board.units.further) in_time clear.within)
        by_due (inr d) = subst (λ o. IsInTime o n.time) (sym d.1) (omega (arith, d.2), omega (arith, d.2, time, clear.few), omega (arith, d.3))

    module _ (total : ℕ) (m0 : Machine X) (o0 : Out) (r0 : Buffer Begun) (i a : ℕ) (m : Machine X) (o : Out) (r : Buffer Begun) (l : Living total m0 o0 r0 i m o r) (few : a ≤ total - i) (clear : IsClearFor f deadline a m) (p : Out) (q : Buffer Begun) (reported : Reported f a m o r p q) where
      pub living-next : (n : Machine X) → Stood f a m n → p.failed ≡ false → Living total m0 o0 r0 (i + a) n p q
      living-next n stood unbroken = record {
        along = along-next f m0 o0 r0 i a m o r n p q l.along reported stood;
        left = left-more total i a m0 m l.left l.along.machine few clear;
        time = omega (arith, l.time, stood.time);
        in_time = in-time-more a m n l.in_time clear stood.machine stood.time;
        unbroken = unbroken;
      }

      -- the sink has failed in them
      pub living-cut : p.failed ≡ true → Puts o0 (text_of (life_for f deadline total m0).ran.records) p
      living-cut failed =
          cut-lines f deadline total m0 (i + a) (i + a) o0 p (left-more total i a m0 m l.left l.along.machine few clear) failed (along-lines f m0 o0 r0 i a m o r p l.along reported.lines).text

  -- ---- by activities

  pub record Stepping (count : ℕ) (m0 : Machine X) (o0 : Out) (r0 : Buffer Begun) (left : ℕ) (m : Machine X) (o : Out) (r : Buffer Begun) : Type 0 where
    pub states : ℕ
    pub living : Living (states_of_activities f count m0) m0 o0 r0 states m o r
    pub rest : states_of_activities f count m0 ≡ states + states_of_activities f left m
    pub room : HasRoom f m0 count left m

  pub stepping-first : (count : ℕ) (m : Machine X) (o : Out) (r : Buffer Begun) → IsKept r → IsInTime (deadline m.board.units.further) m.time → o.failed ≡ false → Stepping count m o r count m o r
  stepping-first count m o r kept in_time unbroken = record {
    states = 0;
    living = living-first (states_of_activities f count m) m o r kept in_time unbroken;
    rest = let e : (n : ℕ) → n ≡ 0 + n = λ n. omega arith in e (states_of_activities f count m);
    room = room-first f count m;
  }

  -- what is left of the activities behind some states
  pub record StepsOn (m0 : Machine X) (count left activities a : ℕ) (m n : Machine X) : Type 0 where
    pub sum : states_of_activities f left m ≡ a + states_of_activities f (left - activities) n
    pub room : HasRoom f m0 count (left - activities) n
    pub some : 0 < a

  steps-on : (m0 : Machine X) (count left activities : ℕ) (m : Machine X) (o : Out) (r : Buffer Begun) (n : Machine X) (p : Out) (q : Buffer Begun) → HasRoom f m0 count left m → 0 < left → m.ended ≡ None →
      (h : PassesInLife f deadline m o r (Ok activities) n p q) → StepsOn m0 count left activities h.states m n
  steps-on m0 count left zero m o r n p q room many lives h =
      let part = states-part f h.states left m n lives many h.passed.some h.part h.passed.machine in
      let none : left - 0 ≡ left = omega arith in
      record {
        sum = part.0 ∙ ap (λ k. h.states + states_of_activities f k n) (sym none);
        room = subst (λ k. HasRoom f m0 count k n) (sym none) (room-part f m0 count left h.states m n room many h.short h.passed.time h.part part.1);
        some = h.passed.some;
      }
  steps-on m0 count left (suc more) m o r n p q room many lives h =
      let fewer : left - suc more ≡ left - 1 = omega (arith, h.part.0) in
      let there : n ≡ (run_for f (current m).left m).machine = h.passed.machine ∙ ap (λ k. (run_for f k m).machine) h.part.1 in
      let one : left ≡ suc (left - 1) = omega (arith, many) in
      let sum = states-more f left (left - 1) m n one there in
      let time : n.time ≡ m.time + (current m).left = omega (arith, h.passed.time, h.part.1) in
      record {
        sum = sum ∙ ap (λ k. k + states_of_activities f (left - 1) n) (sym h.part.1) ∙ ap (λ k. h.states + states_of_activities f k n) (sym fewer);
        room = subst (λ k. HasRoom f m0 count k n) (sym fewer) (room-over f m0 count left m n room many h.short time);
        some = h.passed.some;
      }

  -- an activity without a state is followed by none
  states-over : (left : ℕ) (m : Machine X) → (current m).left ≡ 0 → states_of_activities f left m ≡ 0
  states-over zero m none = states-none f m
  states-over (suc more) m none =
      let there : m ≡ (run_for f (current m).left m).machine = ap (λ (s : Stepped X). s.machine) (sym (run-none f m)) ∙ ap (λ k. (run_for f k m).machine) (sym none) in
      let sum = states-more f (suc more) more m m refl there in
      let rest = states-over more m none in
      omega (arith, sum, rest, none)

  -- the deadline has come, and a state is left or none
  pub stepping-late : (count : ℕ) (m0 : Machine X) (o0 : Out) (r0 : Buffer Begun) (left : ℕ) (m : Machine X) (o : Out) (r : Buffer Begun) (s : Stepping count m0 o0 r0 left m o r) (b : Bool) (states : ℕ) → 0 < left → m.ended ≡ None →
      is_at (deadline m.board.units.further) m.time ≡ true → states ≡ (current m).left → b ≡ nat_lt 0 states → Ends f deadline (states_of_activities f count m0) m0 s.states m (how_of b m) b
  stepping-late count m0 o0 r0 left m o r s true states many lives due is e =
      let one : left ≡ suc (left - 1) = omega (arith, many) in
      let sum = states-more f left (left - 1) m (run_for f (current m).left m).machine one refl in
      let some : 0 < states = lt-true 0 states (sym e) in
      living-late (states_of_activities f count m0) m0 o0 r0 s.states m o r s.living (omega (arith, s.rest, sum, some, is)) lives due
  stepping-late count m0 o0 r0 left m o r s false states many lives due is e =
      let le : states ≤ 0 = lt-false 0 states (sym e) in
      let none = states-over left m (omega (arith, le, is)) in
      living-over (states_of_activities f count m0) m0 o0 r0 s.states m o r s.living (inr (omega (arith, s.rest, none)))

  -- no activity is left
  pub stepping-over : (count : ℕ) (m0 : Machine X) (o0 : Out) (r0 : Buffer Begun) (left : ℕ) (m : Machine X) (o : Out) (r : Buffer Begun) (s : Stepping count m0 o0 r0 left m o r) → left ≡ 0 → states_of_activities f count m0 ≤ s.states
  stepping-over count m0 o0 r0 left m o r s none =
      let over : states_of_activities f left m ≡ 0 = ap (λ k. states_of_activities f k m) none ∙ states-none f m in
      omega (arith, s.rest, over)

  -- the states of the present activity are among those that are left
  pub stepping-few : (count : ℕ) (m0 : Machine X) (o0 : Out) (r0 : Buffer Begun) (left : ℕ) (m : Machine X) (o : Out) (r : Buffer Begun) (s : Stepping count m0 o0 r0 left m o r) (a : ℕ) → 0 < left → a ≤ (current m).left → a ≤ states_of_activities f count m0 - s.states
  stepping-few count m0 o0 r0 left m o r s a many few =
      let one : left ≡ suc (left - 1) = omega (arith, many) in
      let sum = states-more f left (left - 1) m (run_for f (current m).left m).machine one refl in
      omega (arith, s.rest, sum, few)

  module _ (feeds : Feeds deadline f) (count : ℕ) (m0 : Machine X) (o0 : Out) (r0 : Buffer Begun) (left : ℕ) (m : Machine X) (o : Out) (r : Buffer Begun) (s : Stepping count m0 o0 r0 left m o r) (many : 0 < left) (lives : m.ended ≡ None) where
    pub stepping-next : (activities : ℕ) (n : Machine X) (p : Out) (q : Buffer Begun) → PassesInLife f deadline m o r (Ok activities) n p q → p.failed ≡ false → Stepping count m0 o0 r0 (left - activities) n p q
    stepping-next activities n p q h unbroken =
        let on = steps-on m0 count left activities m o r n p q s.room many lives h in
        let reported = activity-reported f h.states m o r n p q lives h.passed in
        let stood = activity-stood f h.states m o r n p q h.passed in
        record {
          states = s.states + h.states;
          living = living-next feeds (states_of_activities f count m0) m0 o0 r0 s.states h.states m o r s.living (omega (arith, s.rest, on.sum)) h.clear p q reported n stood unbroken;
          rest = omega (arith, s.rest, on.sum);
          room = on.room;
        }

    pub stepping-smaller : (activities : ℕ) (n : Machine X) (p : Out) (q : Buffer Begun) → PassesInLife f deadline m o r (Ok activities) n p q → states_of_activities f (left - activities) n < states_of_activities f left m
    stepping-smaller activities n p q h =
        let on = steps-on m0 count left activities m o r n p q s.room many lives h in
        omega (arith, on.sum, on.some)

-- ---- to a state, or to what stops the run before

module _ {X : Type 0} (f : Further X) (deadline : X → Option ℕ) (stop : Stopping X) (until : ℕ) where
  pub record Running (m0 : Machine X) (o0 : Out) (r0 : Buffer Begun) (states : ℕ) (m : Machine X) (o : Out) (r : Buffer Begun) : Type 0 where
    pub living : Living f deadline (states_until f stop until m0) m0 o0 r0 states m o r
    pub rest : states_until f stop until m0 ≡ states + states_to_stop f stop (noted_for f stop false states m0) (until - m.time) m
    pub calm : m.under_way ≡ None → noted_for f stop false states m0 ≡ false
    pub time : m.time ≤ max until m0.time

  -- before the first state, of a machine that is the one that was looked at
  pub running-first : (m x : Machine X) (o : Out) (r : Buffer Begun) → x ≡ m → IsKept r → IsInTime (deadline m.board.units.further) m.time → o.failed ≡ false → Running m o r 0 x o r
  running-first m x o r same kept in_time unbroken =
      let none : noted_for f stop false 0 m ≡ false = noted-none f stop false m in
      let all : states_until f stop until m ≡ 0 + states_to_stop f stop (noted_for f stop false 0 m) (until - m.time) m =
      (let e : (n : ℕ) → n ≡ 0 + n = λ n. omega arith in e (states_until f stop until m)) ∙ ap (λ b. 0 + states_to_stop f stop b (until - m.time) m) (sym none) in
      let time : x.time ≡ m.time = ap (λ (y : Machine X). y.time) same in
      record {
        living = subst (λ (y : Machine X). Living f deadline (states_until f stop until m) m o r 0 y o r) (sym same) (living-first f deadline (states_until f stop until m) m o r kept in_time unbroken);
        rest = all ∙ ap (λ (y : Machine X). 0 + states_to_stop f stop (noted_for f stop false 0 m) (until - y.time) y) (sym same);
        calm = λ between. none;
        time = omega (arith, time);
      }

  -- states that pass at once pass behind those so far
  pub running-at-once : (states : ℕ) (m0 m : Machine X) (o0 : Out) (r0 : Buffer Begun) (o : Out) (r : Buffer Begun) (s : Running m0 o0 r0 states m o r) (a : ℕ) → AreAtOnce f a m → AreAtOnce f a (run_for f states m0).machine
  running-at-once states m0 m o0 r0 o r s a h = subst (AreAtOnce f a) s.living.along.machine h

  module _ (states : ℕ) (m0 m : Machine X) (o0 : Out) (r0 : Buffer Begun) (o : Out) (r : Buffer Begun) (s : Running m0 o0 r0 states m o r) where
    pub running-more : m.time < until → states < states_until f stop until m0
    running-more less =
        let some = stop-some f stop (noted_for f stop false states m0) (until - m.time) m (omega (arith, less)) in
        omega (arith, s.rest, some)

    -- the state has come
    pub running-over : until ≤ m.time → states_until f stop until m0 ≤ states
    running-over past =
        let noted : Bool = noted_for f stop false states m0 in
        let none : until - m.time ≡ 0 = omega (arith, past) in
        let over : states_to_stop f stop noted (until - m.time) m ≡ 0 = ap (λ n. states_to_stop f stop noted n m) none ∙ stop-none f stop noted m in
        omega (arith, s.rest, over)

    module _ (a : ℕ) (few : a ≤ until - m.time) (some : 0 < a) (free : IsClear f stop a m) where
      running-clear : (i : ℕ) → 0 < i → i < a → stops_behind f stop (noted_for f stop false states m0) i m ≡ false
      running-clear = free (noted_for f stop false states m0) s.calm

      -- behind them as behind all states so far
      running-behind : stops_behind f stop false (states + a) m0 ≡ stops_behind f stop (noted_for f stop false states m0) a m
      running-behind = behind-add f stop states a false m0 ∙ ap (stops_behind f stop (noted_for f stop false states m0) a) (sym s.living.along.machine)

      -- some states of the run, and others
      pub running-part : a ≤ states_until f stop until m0 - states
      running-part =
          let noted : Bool = noted_for f stop false states m0 in
          let sum : until - m.time ≡ a + (until - m.time - a) = omega (arith, few) in
          let rest = stop-any f stop noted a (until - m.time - a) m running-clear some in
          let all : states_to_stop f stop noted (until - m.time) m ≡ a + rest.0 = ap (λ n. states_to_stop f stop noted n m) sum ∙ rest.1 in
          omega (arith, s.rest, all)

      -- the run stops behind them
      pub running-stop : stops_behind f stop false (states + a) m0 ≡ true → states_until f stop until m0 ≤ states + a
      running-stop here =
          let noted : Bool = noted_for f stop false states m0 in
          let sum : until - m.time ≡ a + (until - m.time - a) = omega (arith, few) in
          let all : states_to_stop f stop noted (until - m.time) m ≡ a =
          ap (λ k. states_to_stop f stop noted k m) sum ∙ stop-there f stop noted a (until - m.time - a) m running-clear some (sym running-behind ∙ here) in
          omega (arith, s.rest, all)

      -- or not
      pub running-next : (feeds : Feeds deadline f) → IsClearFor f deadline a m → (n : Machine X) (p : Out) (q : Buffer Begun) → Reported f a m o r p q → Stood f a m n → p.failed ≡ false → stops_behind f stop false (states + a) m0 ≡ false → Running m0 o0 r0 (states + a) n p q
      running-next feeds clear n p q reported stood unbroken none =
          let noted : Bool = noted_for f stop false states m0 in
          let sum : until - m.time ≡ a + (until - n.time) = omega (arith, few, stood.time) in
          let later : noted_for f stop noted a m ≡ noted_for f stop false (states + a) m0 =
          ap (noted_for f stop noted a) s.living.along.machine ∙ sym (noted-add f stop states a false m0) in
          let all : states_to_stop f stop noted (until - m.time) m ≡ a + states_to_stop f stop (noted_for f stop false (states + a) m0) (until - n.time) n =
          ap (λ k. states_to_stop f stop noted k m) sum
          ∙ stop-past f stop noted a (until - n.time) m running-clear n stood.machine (sym running-behind ∙ none)
          ∙ ap (λ b. a + states_to_stop f stop b (until - n.time) n) later in
          let next = living-next f deadline feeds (states_until f stop until m0) m0 o0 r0 states a m o r s.living running-part clear p q reported n stood unbroken in
          record {
            living = next;
            rest = omega (arith, s.rest, all);
            calm = λ between. calm-there f stop (noted_for f stop false (states + a) m0) (run_for f (states + a) m0).machine none (ap (λ (x : Machine X). x.under_way) (sym next.along.machine) ∙ between);
            time = omega (arith, s.time, stood.time, few, some);
          }
