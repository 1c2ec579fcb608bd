-- A command on its way: so many states have passed since it began.
use Rattle.std.proofs.Common.{◌≡◌, ℕ, ◌+◌, ◌-◌, ◌*◌, ◌<◌, ◌≤◌, max, is_some, Bool, true, false, if◌then◌else◌, nat_lt, List, [], ◌++◌, Option, Some, None, refl, sym, ap, subst, ◌∙◌, append_assoc, append-nil, arith, IfSome, is_none, ◌↔◌, ◌==◌, ◌&&◌, Result, Ok, Err, OnOk, OnErr}
use Rattle.std.proofs.lemmas.Bool.Decides.{nat_tests}
use Rattle.std.proofs.Math.Nat.{mul-add}
use Rattle.circular_buffer.specs.Buffer.{Buffer, buffer, keep_last}
use Rattle.kc_extra.specs.Further.{Further}
use Rattle.kc_trace.specs.declared.record.Record.{Record}
use Rattle.kc_trace.specs.Counting.{counted_all}
use Rattle.kc_trace.specs.Out.{Out, Puts, Prints}
use Rattle.kc_trace.specs.Text.{text_of}
use Rattle.kc_trace.proofs.Printed.{Prints-nothing, Prints-none, Prints-append, Prints-longer}
use Rattle.kc_machine_spec.specs.declared.doing.End.{End}
use Rattle.kc_machine_spec.specs.declared.doing.End.TheVariants as end
use Rattle.kc_machine_spec.specs.Text.{HasRun}
use Rattle.kc_machine_spec.specs.declared.doing.UnderWay.{UnderWay}
use Rattle.kc_machine_spec.specs.Machine.{Machine, Stepped, current}
use Rattle.kc_machine_spec.specs.Passing.{activity_end}
use Rattle.kc_machine_spec.specs.Run.{still, and_then, run_for, run_to}
use Rattle.kc_machine_spec.proofs.Runs.{run_for-ended, run_for-add, run_for-has_run, run-none}
use Rattle.kc_machine.specs.Board.{Whole}
use Rattle.kc_machine.specs.Stepping.{IsBrief}
use Rattle.kc_debug.specs.declared.activities.Begun.{Begun}
use Rattle.kc_debug.specs.Activities.{begins_unless, beginning, begun_for}
use Rattle.kc_debug.specs.Stops.{activity_states, is_at, states_at_once}
use Rattle.kc_debug.specs.Passing.{IsKept, Passed, Reported, Stood, Spends, SpendsLooking}
use Rattle.kc_debug.specs.Stands.{FailsWithin}
use Rattle.kc_debug.proofs.Last.{last-append, last-same}
use Rattle.kc_debug.proofs.Begins.{begun-none, begun-add, begun-ended, begun-activity}

-- a machine that is not at its first state has run
has_run : (how : End) (time : ℕ) → 0 < time → HasRun how time
has_run end.Spent time h = tt
has_run end.Powerdown time h = h
has_run end.Reset time h = h
has_run (end.Undefined what access) time h = tt

-- ---- tests

pub none_end : (o : Option End) (b : Bool) → b ≡ false → b ≡ is_some o → o ≡ None
none_end None b e h = refl
none_end (Some how) b e h = absurd (let t : true ≡ false = sym h ∙ e in cc)

pub no_end : (o : Option End) (b : Bool) → b ≡ true → b ≡ is_none o → o ≡ None
no_end None b e h = refl
no_end (Some how) b e h = absurd (let t : false ≡ true = sym h ∙ e in cc)

-- nothing begins where an activity is under way
pub busy : {X : Type 0} (m : Machine X) (b : Bool) → b ≡ false → ((b ≡ true) ↔ (m.under_way ≡ None)) → beginning m ≡ []
busy m b e h = by_way m.under_way refl
  where
    by_way : (u : Option UnderWay) → m.under_way ≡ u → beginning m ≡ []
    by_way (Some activity) is = ap (λ u. begins_unless u m) is
    by_way None is = absurd (let t : b ≡ true = h.1 is in let f : true ≡ false = sym t ∙ e in cc)

pub at_break : {X : Type 0} (m : Machine X) (breaks : List ℕ) (b r : Bool) → b ≡ true → ((b ≡ true) ↔ (m.under_way ≡ None)) → r ≡ is_at breaks m → r ≡ (is_none m.under_way && is_at breaks m)
at_break m breaks b r t h is = is ∙ ap (λ u. is_none u && is_at breaks m) (sym (h.0 t))

-- how many states pass at once, as a test of their number reports
pub at-once-near : {X : Type 0} (until now : ℕ) (m : Machine X) (b : Bool) → now ≡ m.time → b ≡ nat_lt (until - now) 255 → b ≡ true → states_at_once until m ≡ 1
at-once-near until now m b e is near =
    ap (λ t. if nat_lt (until - t) 255 then 1 else activity_states m) (sym e) ∙ ap (λ c. if c then 1 else activity_states m) (sym is ∙ near)

pub at-once-far : {X : Type 0} (until now : ℕ) (m : Machine X) (b : Bool) → now ≡ m.time → b ≡ nat_lt (until - now) 255 → b ≡ false → states_at_once until m ≡ activity_states m
at-once-far until now m b e is far =
    ap (λ t. if nat_lt (until - t) 255 then 1 else activity_states m) (sym e) ∙ ap (λ c. if c then 1 else activity_states m) (sym is ∙ far)

pub is-far : (until now : ℕ) (b : Bool) → b ≡ nat_lt (until - now) 255 → b ≡ false → 255 ≤ until - now
is-far until now b is far = grind (arith, nat_tests, is, far)

-- what is kept stays where nothing is noted
pub kept-same : (r : Buffer Begun) (xs : List Begun) → IsKept r → xs ≡ [] → r ≡ buffer (keep_last r.capacity (r.items ++ xs)) r.capacity
kept-same r xs kept none =
    let all : r.items ≡ r.items ++ xs = sym (append-nil r.items) ∙ ap (λ ys. r.items ++ ys) (sym none) in
    ap (λ ys. buffer ys r.capacity) (kept ∙ ap (keep_last r.capacity) all)

-- what holds the last of a list is kept
pub kept-last : (r : Buffer Begun) (n : ℕ) (xs : List Begun) → r ≡ buffer (keep_last n xs) n → IsKept r
kept-last r n xs is =
    ap (λ (b : Buffer Begun). b.items) is
    ∙ sym (last-same n xs)
    ∙ ap (λ (b : Buffer Begun). keep_last b.capacity b.items) (sym is)

-- what is kept of 33
pub ring-33 : (r q : Buffer Begun) (xs : List Begun) → r ≡ buffer (keep_last 33 r.items) 33 → q ≡ buffer (keep_last r.capacity xs) r.capacity → q ≡ buffer (keep_last 33 xs) 33
ring-33 r q xs kept h = subst (λ n. q ≡ buffer (keep_last n xs) n) (ap (λ (b : Buffer Begun). b.capacity) kept) h

-- a machine that has ended has ended in some way
pub some_end : (o : Option End) (b : Bool) → b ≡ true → b ≡ is_some o → (how : End) × (o ≡ Some how)
some_end (Some how) b e h = (how, refl)
some_end None b e h = absurd cc

module _ {X : Type 0} (f : Further X) where
  pub record Along (m0 : Machine X) (o0 : Out) (r0 : Buffer Begun) (states : ℕ) (m : Machine X) (o : Out) (r : Buffer Begun) : Type 0 where
    pub machine : m ≡ (run_for f states m0).machine
    pub lines : Prints o0 (run_for f states m0).records o
    pub begun : r ≡ buffer (keep_last r0.capacity (r0.items ++ begun_for f states m0)) r0.capacity

  -- at the beginning
  pub along-first : (m : Machine X) (o : Out) (r : Buffer Begun) → IsKept r → Along m o r 0 m o r
  along-first m o r kept = record {
    machine = ap (λ (s : Stepped X). s.machine) (sym (run-none f m));
    lines = Prints-none _ o (ap (λ (s : Stepped X). s.records) (sym (run-none f m)));
    begun = ap (λ ys. buffer ys r.capacity) (kept ∙ ap (keep_last r.capacity) (sym (append-nil r.items) ∙ ap (λ xs. r.items ++ xs) (sym (begun-none f m))));
  }

  pub along-kept : (m0 : Machine X) (o0 : Out) (r0 : Buffer Begun) (i : ℕ) (m : Machine X) (o : Out) (r : Buffer Begun) → Along m0 o0 r0 i m o r → IsKept r
  along-kept m0 o0 r0 i m o r along = kept-last r r0.capacity (r0.items ++ begun_for f i m0) along.begun

  -- some states of an activity have been reported
  pub activity-reported : (n : ℕ) (m : Machine X) (o : Out) (r : Buffer Begun) (x : Machine X) (p : Out) (q : Buffer Begun) → m.ended ≡ None → Passed f n m o r x p q → Reported f n m o r p q
  activity-reported n m o r x p q lives next = record {
    some = next.some;
    lines = next.lines;
    begun = next.begun ∙ ap (λ xs. buffer (keep_last r.capacity (r.items ++ xs)) r.capacity) (sym (begun-activity f n m lives next.some next.few));
  }

  pub activity-stood : (n : ℕ) (m : Machine X) (o : Out) (r : Buffer Begun) (x : Machine X) (p : Out) (q : Buffer Begun) → Passed f n m o r x p q → Stood f n m x
  activity-stood n m o r x p q next = record { machine = next.machine; time = next.time }

  -- the lines of some states more
  pub along-lines : (m0 : Machine X) (o0 : Out) (r0 : Buffer Begun) (i n : ℕ) (m : Machine X) (o : Out) (r : Buffer Begun) (p : Out) →
      Along m0 o0 r0 i m o r → Prints o (run_for f n m).records p → Prints o0 (run_for f (i + n) m0).records p
  along-lines m0 o0 r0 i n m o r p along lines =
      let same : run_for f n m ≡ run_for f n (run_for f i m0).machine = ap (run_for f n) along.machine in
      let all : run_for f (i + n) m0 ≡ and_then (run_for f i m0) (run_for f n) = run_for-add f i n m0 in
      subst (λ xs. Prints o0 xs p) (ap (λ (s : Stepped X). (run_for f i m0).records ++ s.records) same ∙ ap (λ (s : Stepped X). s.records) (sym all))
      (Prints-append o0 (run_for f i m0).records o (run_for f n m).records p along.lines lines)

  -- some states more
  pub along-next : (m0 : Machine X) (o0 : Out) (r0 : Buffer Begun) (i n : ℕ) (m : Machine X) (o : Out) (r : Buffer Begun) (x : Machine X) (p : Out) (q : Buffer Begun) →
      Along m0 o0 r0 i m o r → Reported f n m o r p q → Stood f n m x → Along m0 o0 r0 (i + n) x p q
  along-next m0 o0 r0 i n m o r x p q along reported stood =
      let mid : Machine X = (run_for f i m0).machine in
      let same : run_for f n m ≡ run_for f n mid = ap (run_for f n) along.machine in
      let all : run_for f (i + n) m0 ≡ and_then (run_for f i m0) (run_for f n) = run_for-add f i n m0 in
      let more : (r0.items ++ begun_for f i m0) ++ begun_for f n m ≡ r0.items ++ begun_for f (i + n) m0 =
      append_assoc r0.items (begun_for f i m0) (begun_for f n m)
      ∙ ap (λ y. r0.items ++ (begun_for f i m0 ++ begun_for f n y)) along.machine
      ∙ ap (λ xs. r0.items ++ xs) (sym (begun-add f i n m0)) in
      record {
        machine = stood.machine ∙ ap (λ (s : Stepped X). s.machine) same ∙ ap (λ (s : Stepped X). s.machine) (sym all);
        lines = along-lines m0 o0 r0 i n m o r p along reported.lines;
        begun = reported.begun
            ∙ ap (λ (b : Buffer Begun). buffer (keep_last b.capacity (b.items ++ begun_for f n m)) b.capacity) along.begun
            ∙ ap (λ xs. buffer xs r0.capacity) (last-append r0.capacity (r0.items ++ begun_for f i m0) (begun_for f n m) ∙ ap (keep_last r0.capacity) more);
      }

  -- an ended machine stands still
  pub along-over : (m0 : Machine X) (o0 : Out) (r0 : Buffer Begun) (i k : ℕ) (m : Machine X) (o : Out) (r : Buffer Begun) (how : End) →
      Along m0 o0 r0 i m o r → m.ended ≡ Some how → Along m0 o0 r0 (i + k) m o r
  along-over m0 o0 r0 i k m o r how along over =
      let mid : Machine X = (run_for f i m0).machine in
      let ended : mid.ended ≡ Some how = ap (λ (x : Machine X). x.ended) (sym along.machine) ∙ over in
      let all : run_for f (i + k) m0 ≡ and_then (run_for f i m0) (run_for f k) = run_for-add f i k m0 in
      let rest : run_for f k mid ≡ still mid = run_for-ended f k mid how ended in
      record {
        machine = along.machine ∙ ap (λ (s : Stepped X). s.machine) (sym rest) ∙ ap (λ (s : Stepped X). s.machine) (sym all);
        lines = subst (λ xs. Prints o0 xs o)
            (sym (append-nil (run_for f i m0).records) ∙ ap (λ (s : Stepped X). (run_for f i m0).records ++ s.records) (sym rest) ∙ ap (λ (s : Stepped X). s.records) (sym all))
            along.lines;
        begun = along.begun
            ∙ ap (λ xs. buffer (keep_last r0.capacity (r0.items ++ xs)) r0.capacity)
            (sym (append-nil (begun_for f i m0)) ∙ ap (λ xs. begun_for f i m0 ++ xs) (sym (begun-ended f k mid how ended)) ∙ sym (begun-add f i k m0));
      }

  -- a trace that has failed on the way
  pub along-cut : (m0 : Machine X) (o0 : Out) (i k total : ℕ) (o : Out) → Prints o0 (run_for f i m0).records o → o.failed ≡ true → total ≡ i + k → Prints o0 (run_for f total m0).records o
  along-cut m0 o0 i k total o lines failed sum =
      subst (λ n. Prints o0 (run_for f n m0).records o) (sym sum)
      (subst (λ (s : Stepped X). Prints o0 s.records o) (sym (run_for-add f i k m0)) (Prints-longer o0 _ _ o failed lines))

  -- the end of the way
  pub along-done : (m0 : Machine X) (o0 : Out) (r0 : Buffer Begun) (i total : ℕ) (m : Machine X) (o : Out) (r : Buffer Begun) →
      Along m0 o0 r0 i m o r → total ≡ i → Along m0 o0 r0 total m o r
  along-done m0 o0 r0 i total m o r along e = subst (λ n. Along m0 o0 r0 n m o r) (sym e) along

  -- a machine that ends on the way has run
  pub ran : (n : ℕ) (m x : Machine X) → x ≡ (run_for f n m).machine → m.ended ≡ None → IfSome x.ended (λ how. HasRun how x.time)
  ran n m x is lives = by_end x.ended refl
    where
      by_end : (o : Option End) → x.ended ≡ o → IfSome o (λ how. HasRun how x.time)
      by_end None e = tt
      by_end (Some how) e =
          let time : (run_for f n m).machine.time ≡ x.time = ap (λ (y : Machine X). y.time) (sym is) in
          let over : (run_for f n m).machine.ended ≡ Some how = ap (λ (y : Machine X). y.ended) (sym is) ∙ e in
          has_run how x.time (omega (arith, run_for-has_run f n m how lives over))

  -- the states of a whole activity
  pub passed-activity : (m n : Machine X) (o p : Out) (r q : Buffer Begun) → IsBrief m → n ≡ (run_to f (activity_end m) m).machine → n.time ≡ activity_end m →
      Prints o (run_to f (activity_end m) m).records p → q ≡ buffer (keep_last r.capacity (r.items ++ beginning m)) r.capacity → Passed f (current m).left m o r n p q
  passed-activity m n o p r q brief machine time lines begun =
      let e : activity_end m - m.time ≡ (current m).left = omega arith in
      record {
        some = brief.some;
        few = λ more. omega arith;
        machine = machine ∙ ap (λ i. (run_for f i m).machine) e;
        time = time;
        lines = subst (λ i. Prints o (run_for f i m).records p) e lines;
        begun = begun;
      }

  -- one state
  pub passed-state : (until : ℕ) (m n : Machine X) (o p : Out) (r q : Buffer Begun) → until ≡ m.time + 1 → n ≡ (run_to f n.time m).machine → m.time < n.time → n.time ≤ max until m.time →
      Prints o (run_to f until m).records p → q ≡ buffer (keep_last r.capacity (r.items ++ beginning m)) r.capacity → Passed f 1 m o r n p q
  passed-state until m n o p r q next machine further within lines begun =
      let e : n.time - m.time ≡ 1 = omega arith in
      let u : until - m.time ≡ 1 = omega arith in
      record {
        some = omega arith;
        few = λ more. absurd (omega arith);
        machine = machine ∙ ap (λ i. (run_for f i m).machine) e;
        time = omega arith;
        lines = subst (λ i. Prints o (run_for f i m).records p) u lines;
        begun = begun;
      }

  -- ---- touch, and where a machine stands on the way

  touch-add : (i k : ℕ) (m : Machine X) → (run_for f (i + k) m).touch ≡ (run_for f i m).touch + (run_for f k (run_for f i m).machine).touch
  touch-add i k m = ap (λ (s : Stepped X). s.touch) (run_for-add f i k m)

  -- the touch of some states is within that of all
  touch-within : (k n : ℕ) (m : Machine X) → k ≤ n → (run_for f k m).touch ≤ (run_for f n m).touch
  touch-within k n m few =
      let sum : n ≡ k + (n - k) = omega arith in
      let all = ap (λ i. (run_for f i m).touch) sum ∙ touch-add k (n - k) m in
      omega (arith, all)

  -- what is spent in a run to a state
  pub spends-run : (k to : ℕ) (m : Whole X) (s : ℕ) (n : Whole X) (t : ℕ) → to - m.machine.time ≡ k →
      t ≤ s + 4 * (run_to f to m.machine).touch → n.moves ≤ m.moves + 4 * (run_to f to m.machine).touch → Spends f k m s n t
  spends-run k to m s n t e steps moves =
      let cost = ap (λ i. (run_for f i m.machine).touch) e in
      record { steps = omega (arith, steps, cost); moves = omega (arith, moves, cost) }

  pub spends-activity : (m : Whole X) (s : ℕ) (n : Whole X) (t : ℕ) →
      t ≤ s + 4 * (run_to f (activity_end m.machine) m.machine).touch → n.moves ≤ m.moves + 4 * (run_to f (activity_end m.machine) m.machine).touch →
      Spends f (current m.machine).left m s n t
  spends-activity m s n t steps moves = spends-run (current m.machine).left (activity_end m.machine) m s n t (omega arith) steps moves

  -- a run that may stop before its state
  pub spends-some : (end to : ℕ) (m : Whole X) (s : ℕ) (n : Whole X) (t : ℕ) → to - m.machine.time ≤ end →
      t ≤ s + 4 * (run_to f to m.machine).touch → n.moves ≤ m.moves + 4 * (run_to f to m.machine).touch → Spends f end m s n t
  spends-some end to m s n t few steps moves =
      let cost = touch-within (to - m.machine.time) end m.machine few in
      record { steps = omega (arith, steps, cost); moves = omega (arith, moves, cost) }

  -- nothing is spent before the first state
  pub spends-none : (m : Whole X) (s : ℕ) → Spends f 0 m s m s
  spends-none m s = record { steps = omega arith; moves = omega arith }

  -- some states, and then others
  pub spends-add : (i k : ℕ) (m0 : Whole X) (s0 : ℕ) (m : Whole X) (s : ℕ) (n : Whole X) (t : ℕ) → m.machine ≡ (run_for f i m0.machine).machine →
      Spends f i m0 s0 m s → Spends f k m s n t → Spends f (i + k) m0 s0 n t
  spends-add i k m0 s0 m s n t is before after =
      let same : (run_for f k m.machine).touch ≡ (run_for f k (run_for f i m0.machine).machine).touch = ap (λ x. (run_for f k x).touch) is in
      let all = touch-add i k m0.machine in
      record { steps = omega (arith, before.steps, after.steps, same, all); moves = omega (arith, before.moves, after.moves, same, all) }

  -- more states do no less
  pub spends-within : (k n : ℕ) (m0 : Whole X) (s0 : ℕ) (m : Whole X) (s : ℕ) → k ≤ n → Spends f k m0 s0 m s → Spends f n m0 s0 m s
  spends-within k n m0 s0 m s few spends =
      let cost = touch-within k n m0.machine few in
      record { steps = omega (arith, spends.steps, cost); moves = omega (arith, spends.moves, cost) }

  -- the same with looks: before the first state
  pub looking-first : (looks : ℕ) (m : Whole X) (s : ℕ) (n : Whole X) (t : ℕ) → n.moves ≤ m.moves + looks → t ≡ s → SpendsLooking f looks 0 m s n t
  looking-first looks m s n t moves steps =
      let one : looks * (0 + 1) ≡ looks = omega arith in
      record { steps = omega (arith, steps); moves = omega (arith, moves, one) }

  -- some states more, and a look behind them
  pub looking-add : (looks i k : ℕ) (m0 : Whole X) (s0 : ℕ) (m : Whole X) (s : ℕ) (n : Whole X) (t : ℕ) (x : Whole X) (u : ℕ) → m.machine ≡ (run_for f i m0.machine).machine → 0 < k →
      SpendsLooking f looks i m0 s0 m s → Spends f k m s n t → x.moves ≤ n.moves + looks → u ≡ t → SpendsLooking f looks (i + k) m0 s0 x u
  looking-add looks i k m0 s0 m s n t x u is some before after moves steps =
      let same : (run_for f k m.machine).touch ≡ (run_for f k (run_for f i m0.machine).machine).touch = ap (λ y. (run_for f k y).touch) is in
      let all = touch-add i k m0.machine in
      let sum : i + k + 1 ≡ (i + 1) + (1 + (k - 1)) = omega (arith, some) in
      let product : looks * (i + k + 1) ≡ looks * (i + 1) + (looks * 1 + looks * (k - 1)) =
      ap (λ j. looks * j) sum ∙ mul-add looks (i + 1) (1 + (k - 1)) ∙ ap (λ j. looks * (i + 1) + j) (mul-add looks 1 (k - 1)) in
      let one : looks * 1 ≡ looks = omega arith in
      record { steps = omega (arith, before.steps, after.steps, same, all, steps); moves = omega (arith, before.moves, after.moves, same, all, moves, product, one) }

  -- more states do no less
  pub looking-within : (looks k n : ℕ) (m0 : Whole X) (s0 : ℕ) (m : Whole X) (s : ℕ) → k ≤ n → SpendsLooking f looks k m0 s0 m s → SpendsLooking f looks n m0 s0 m s
  looking-within looks k n m0 s0 m s few spends =
      let cost = touch-within k n m0.machine few in
      let sum : n + 1 ≡ (k + 1) + (n - k) = omega (arith, few) in
      let product : looks * (n + 1) ≡ looks * (k + 1) + looks * (n - k) = ap (λ j. looks * j) sum ∙ mul-add looks (k + 1) (n - k) in
      record { steps = omega (arith, spends.steps, cost); moves = omega (arith, spends.moves, cost, product) }

  -- a pass in which the sink has failed has no look behind it
  pub looking-last : (looks i k : ℕ) (m0 : Whole X) (s0 : ℕ) (m : Whole X) (s : ℕ) (n : Whole X) (t : ℕ) → m.machine ≡ (run_for f i m0.machine).machine → 0 < k →
      SpendsLooking f looks i m0 s0 m s → Spends f k m s n t → SpendsLooking f looks (i + k) m0 s0 n t
  looking-last looks i k m0 s0 m s n t is some before after = looking-add looks i k m0 s0 m s n t n t is some before after (omega arith) refl

  -- where nothing is looked at
  pub looking-none : (states : ℕ) (m : Whole X) (s : ℕ) (n : Whole X) (t : ℕ) → SpendsLooking f 0 states m s n t → Spends f states m s n t
  looking-none states m s n t h = record { steps = h.steps; moves = omega (arith, h.moves) }

  -- the sink has failed in the lines of the first states that pass at once
  pub fails-first : (at_once : Machine X → ℕ) (m : Machine X) (o : Out) (r : Buffer Begun) (n : Machine X) (p : Out) (q : Buffer Begun) →
      Passed f (at_once m) m o r n p q → o.failed ≡ false → p.failed ≡ true → FailsWithin f at_once (at_once m) m o n p
  fails-first at_once m o r n p q next unbroken failed =
      let none = run-none f m in
      record {
        before = 0;
        there = m;
        stands = ap (λ (s : Stepped X). s.machine) (sym none);
        mid = o;
        whole = subst (λ (s : Stepped X). Prints o s.records o) (sym none) (Prints-nothing o);
        unbroken = unbroken;
        part = next.lines;
        failed = failed;
        few = omega arith;
        machine = next.machine;
      }

  -- some states, and then those in which it has failed
  pub fails-later : (at_once : Machine X → ℕ) (i k total : ℕ) (m0 m : Machine X) (o0 o : Out) (n : Machine X) (p : Out) →
      m ≡ (run_for f i m0).machine → Prints o0 (run_for f i m0).records o → FailsWithin f at_once k m o n p → i + k ≤ total → FailsWithin f at_once total m0 o0 n p
  fails-later at_once i k total m0 m o0 o n p is lines fails fits =
      let same : run_for f fails.before m ≡ run_for f fails.before (run_for f i m0).machine = ap (run_for f fails.before) is in
      let all : run_for f (i + fails.before) m0 ≡ and_then (run_for f i m0) (run_for f fails.before) = run_for-add f i fails.before m0 in
      record {
        before = i + fails.before;
        there = fails.there;
        stands = fails.stands ∙ ap (λ (s : Stepped X). s.machine) same ∙ ap (λ (s : Stepped X). s.machine) (sym all);
        mid = fails.mid;
        whole = subst (λ xs. Prints o0 xs fails.mid)
            (ap (λ (s : Stepped X). (run_for f i m0).records ++ s.records) same ∙ ap (λ (s : Stepped X). s.records) (sym all))
            (Prints-append o0 (run_for f i m0).records o (run_for f fails.before m).records fails.mid lines fails.whole);
        unbroken = fails.unbroken;
        part = fails.part;
        failed = fails.failed;
        few = omega (arith, fails.few, fits);
        machine = fails.machine;
      }
