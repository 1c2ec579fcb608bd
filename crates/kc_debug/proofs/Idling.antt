-- A machine that idles: which activities begin, and which of them are kept.
use Rattle.std.proofs.Common.{◌≡◌, ℕ, zero, suc, ◌+◌, ◌-◌, ◌<◌, ◌≤◌, ◌⊎◌, inl, inr, if◌then◌else◌, is_none, IsTrue, not, ◌==◌, ◌&&◌, Bool, true, false, None, List, [], ◌∷◌, ◌++◌, length, drop, refl, sym, ap, subst, ◌∙◌, append_assoc, append-nil, arith, length-append}
use Rattle.std.specs.Prelude.{nat_le, nat_lt, max}
use Rattle.std.proofs.lemmas.Bool.Decides.{nat_tests}
use Rattle.std.proofs.Math.Seq.{drop-append-add}
use Rattle.std.specs.List.{list_any}
use Rattle.circular_buffer.specs.Buffer.{Buffer, buffer, keep_last}
use Rattle.kc_exec_spec.specs.declared.cpu.Cpu.{Cpu}
use Rattle.kc_extra.specs.Further.{Further}
use Rattle.kc_trace.specs.Out.{Out, Prints}
use Rattle.kc_intc.specs.declared.requests.Choice.TheVariants.{Go}
use Rattle.kc_machine_spec.specs.Machine.{Machine, Stepped, current, asked}
use Rattle.kc_machine_spec.specs.Passing.{IsIdle, activity_end}
use Rattle.kc_machine_spec.specs.Run.{run_for, run_to}
use Rattle.kc_machine_spec.proofs.Idle.{one_more, quiet_end}
use Rattle.kc_machine.specs.Failing.{FailsIn}
use Rattle.kc_machine.specs.Stepping.{IdlesFor}
use Rattle.kc_debug.specs.declared.activities.Begun.{Begun}
use Rattle.kc_debug.specs.Activities.{begins_unless, beginning, begun_for}
use Rattle.kc_debug.specs.Stops.{Stopping, activity_states, at_breaks, is_at, noted_for, states_at_once, states_of_activities, stops_at, stops_behind}
use Rattle.kc_debug.specs.Passing.{IsKept, IsClear, Stood}
use Rattle.kc_debug.specs.Stands.{FailsWithin}
use Rattle.kc_debug.proofs.Last.{last-append}
use Rattle.kc_machine_spec.proofs.Runs.{run-none, machine-add, machine-suc}
use Rattle.kc_debug.proofs.Begins.{begun-none, begun-add, begun-one, states-more}

-- the idle states from a state on, at a program counter
abbrev pub idle_states : ℕ → ℕ → ℕ → List Begun
idle_states from pc zero = []
idle_states from pc (suc n) = idle_states from pc n ++ record { at = from + n; pc = pc } ∷ []

idle-length : (from pc n : ℕ) → length (idle_states from pc n) ≡ n
idle-length from pc zero = refl
idle-length from pc (suc n) =
    let longer : length (idle_states from pc n ++ record { at = from + n; pc = pc } ∷ []) ≡ length (idle_states from pc n) + 1 = length-append (idle_states from pc n) (record { at = from + n; pc = pc } ∷ []) in
    omega (arith, longer, idle-length from pc n)

idle-split : (from pc j k : ℕ) → idle_states from pc (j + k) ≡ idle_states from pc j ++ idle_states (from + j) pc k
idle-split from pc j zero =
    let e : j + 0 ≡ j = omega arith in
    ap (idle_states from pc) e ∙ sym (append-nil (idle_states from pc j))
idle-split from pc j (suc k) =
    let e : j + suc k ≡ suc (j + k) = omega arith in
    let at : from + (j + k) ≡ (from + j) + k = omega arith in
    ap (idle_states from pc) e
    ∙ ap (λ i. idle_states from pc (j + k) ++ record { at = i; pc = pc } ∷ []) at
    ∙ ap (λ xs. xs ++ record { at = (from + j) + k; pc = pc } ∷ []) (idle-split from pc j k)
    ∙ append_assoc (idle_states from pc j) (idle_states (from + j) pc k) (record { at = (from + j) + k; pc = pc } ∷ [])

-- where enough comes, what was before it is not kept
last-behind : {A : Type 0} (n : ℕ) (xs ys : List A) → n ≤ length ys → keep_last n (xs ++ ys) ≡ keep_last n ys
last-behind n xs ys enough =
    let longer : length (xs ++ ys) ≡ length xs + length ys = length-append xs ys in
    let sum : length (xs ++ ys) - n ≡ length xs + (length ys - n) = omega (arith, longer) in
    ap (λ i. drop i (xs ++ ys)) sum ∙ drop-append-add xs ys (length ys - n)

-- of so many idle states, the last that are kept alone need be noted
pub idle-last : (cap : ℕ) (r : List Begun) (from pc n first : ℕ) → from ≤ first → first ≤ from + n → (first ≡ from) ⊎ (first + cap ≤ from + n) →
    keep_last cap (r ++ idle_states first pc (from + n - first)) ≡ keep_last cap (r ++ idle_states from pc n)
idle-last cap r from pc n first low high (inl all) =
    let e : from + n - first ≡ n = omega (arith, all) in
    λ i. keep_last cap (r ++ idle_states (all i) pc (e i))
idle-last cap r from pc n first low high (inr enough) =
    let k : ℕ = from + n - first in
    let j : ℕ = first - from in
    let sum : n ≡ j + k = omega arith in
    let start : from + j ≡ first = omega arith in
    let whole : idle_states from pc n ≡ idle_states from pc j ++ idle_states first pc k =
    ap (idle_states from pc) sum ∙ idle-split from pc j k ∙ ap (λ i. idle_states from pc j ++ idle_states i pc k) start in
    let length : cap ≤ length (idle_states first pc k) = omega (arith, idle-length first pc k) in
    last-behind cap r (idle_states first pc k) length
    ∙ sym (last-behind cap (r ++ idle_states from pc j) (idle_states first pc k) length)
    ∙ ap (keep_last cap) (append_assoc r (idle_states from pc j) (idle_states first pc k))
    ∙ ap (λ xs. keep_last cap (r ++ xs)) (sym whole)

-- where the notes begin
pub first-noted : (cap now end first : ℕ) → first ≡ max now (end - cap) → (first ≡ now) ⊎ (first + cap ≤ end)
first-noted cap now end first is = by (nat_le (end - cap) now) refl
  where
    by : (b : Bool) → nat_le (end - cap) now ≡ b → (first ≡ now) ⊎ (first + cap ≤ end)
    by true e = inl (grind (arith, nat_tests, is, e))
    by false e = inr (grind (arith, nat_tests, is, e))

-- no idle state is noted yet
pub idle-first : (r : Buffer Begun) (from pc : ℕ) → IsKept r → r ≡ buffer (keep_last r.capacity (r.items ++ idle_states from pc 0)) r.capacity
idle-first r from pc kept = ap (λ xs. buffer xs r.capacity) (kept ∙ ap (keep_last r.capacity) (sym (append-nil r.items)))

-- one idle state more is noted
pub idle-noted : (cap : ℕ) (r : List Begun) (p q : Buffer Begun) (from pc at : ℕ) → from ≤ at → p ≡ buffer (keep_last cap (r ++ idle_states from pc (at - from))) cap →
    q ≡ buffer (keep_last p.capacity (p.items ++ record { at = at; pc = pc } ∷ [])) p.capacity → q ≡ buffer (keep_last cap (r ++ idle_states from pc (at + 1 - from))) cap
idle-noted cap r p q from pc at behind before noted =
    let n : ℕ = at - from in
    let here : at ≡ from + n = omega arith in
    let more : at + 1 - from ≡ suc n = omega arith in
    let b : List Begun = record { at = at; pc = pc } ∷ [] in
    noted
    ∙ ap (λ (x : Buffer Begun). buffer (keep_last x.capacity (x.items ++ b)) x.capacity) before
    ∙ ap (λ xs. buffer xs cap) (last-append cap (r ++ idle_states from pc n) b ∙ ap (keep_last cap) (append_assoc r (idle_states from pc n) b))
    ∙ ap (λ i. buffer (keep_last cap (r ++ (idle_states from pc n ++ record { at = i; pc = pc } ∷ []))) cap) here
    ∙ ap (λ i. buffer (keep_last cap (r ++ idle_states from pc i)) cap) (sym more)

pub without : (b : Bool) → IsTrue (not b) → b ≡ false
without false h = refl
without true h = absurd cc

module _ {X : Type 0} (f : Further X) where
  pub record IsThere (k : ℕ) (m : Machine X) : Type 0 where
    pub time : (run_for f k m).machine.time ≡ m.time + k
    pub cpu : (run_for f k m).machine.cpu ≡ m.cpu

  -- after some of its idle states
  pub idles-there : (n k : ℕ) (m : Machine X) → IdlesFor f n m → k ≤ n → IsThere k m
  idles-there n zero m idles within =
      let none = run-none f m in
      let e : m.time ≡ m.time + 0 = omega arith in
      record { time = ap (λ (s : Stepped X). s.machine.time) none ∙ e; cpu = ap (λ (s : Stepped X). s.machine.cpu) none }
  idles-there n (suc k) m idles within =
      let before = idles-there n k m idles (omega arith) in
      let here = idles k (omega arith) in
      let mid : Machine X = (run_for f k m).machine in
      let e : suc k ≡ k + 1 = omega arith in
      let next = ap (λ i. (run_for f i m).machine) e ∙ machine-add f k 1 m ∙ ap (λ (s : Stepped X). s.machine) (one_more f mid here.0 here.1) in
      let time : mid.time + 1 ≡ m.time + suc k = omega (arith, before.time) in
      record { time = ap (λ (x : Machine X). x.time) next ∙ time; cpu = ap (λ (x : Machine X). x.cpu) next ∙ before.cpu }

  -- each idle state is an activity
  pub idles-begun : (n k : ℕ) (m : Machine X) → IdlesFor f n m → k ≤ n → begun_for f k m ≡ idle_states m.time m.cpu.pc k
  idles-begun n zero m idles within = begun-none f m
  idles-begun n (suc k) m idles within =
      let there = idles-there n k m idles (omega arith) in
      let here = idles k (omega arith) in
      let mid : Machine X = (run_for f k m).machine in
      let e : suc k ≡ k + 1 = omega arith in
      let one : beginning mid ≡ record { at = m.time + k; pc = m.cpu.pc } ∷ [] =
      ap (λ u. begins_unless u mid) here.0.between ∙ (λ i. record { at = there.time i; pc = (there.cpu i).pc } ∷ []) in
      ap (λ i. begun_for f i m) e
      ∙ begun-add f k 1 m
      ∙ ap (λ xs. begun_for f k m ++ xs) (begun-one f mid here.0.lives ∙ one)
      ∙ ap (λ xs. xs ++ record { at = m.time + k; pc = m.cpu.pc } ∷ []) (idles-begun n k m idles (omega arith))

  -- a machine that idles is between two activities
  idles-between : (n i : ℕ) (m : Machine X) → IdlesFor f n m → i < n → m.under_way ≡ None
  idles-between n i m idles less = ap (λ (x : Machine X). x.under_way) (ap (λ (st : Stepped X). st.machine) (sym (run-none f m))) ∙ (idles 0 (omega (arith, less))).0.between

  -- where no idle state stops a run, they pass at once
  pub idles-clear : (s : Stopping X) (n : ℕ) (m : Machine X) → IdlesFor f n m → ((i : ℕ) → 0 < i → i < n → stops_behind f s false i m ≡ false) → IsClear f s n m
  idles-clear s n m idles none noted calm i some less =
      ap (λ b. stops_behind f s b i m) (calm (idles-between n i m idles less)) ∙ none i some less

  -- ---- breakpoints alone

  -- nothing is noted
  no-notes : (breaks : List ℕ) (i : ℕ) (m : Machine X) → noted_for f (at_breaks breaks) false i m ≡ false
  unfolding noted_for
  no-notes breaks zero m = refl
  no-notes breaks (suc i) m = no-notes breaks i (run_for f 1 m).machine

  pub stops-at-breaks : (breaks : List ℕ) (i : ℕ) (m x : Machine X) → x ≡ (run_for f i m).machine → (is_none x.under_way && is_at breaks x) ≡ stops_behind f (at_breaks breaks) false i m
  stops-at-breaks breaks i m x is =
      ap (λ (y : Machine X). is_none y.under_way && is_at breaks y) is
      ∙ ap (λ b. stops_at (at_breaks breaks) b (run_for f i m).machine) (sym (no-notes breaks i m))

  -- a machine that idles stays where it is
  pub idles-at-breaks : (breaks : List ℕ) (n i : ℕ) (m : Machine X) → is_at breaks m ≡ false → IdlesFor f n m → 0 < i → i < n → stops_behind f (at_breaks breaks) false i m ≡ false
  idles-at-breaks breaks n i m none idles some less =
      let there = idles-there n i m idles (omega (arith, less)) in
      let here = idles i less in
      let x : Machine X = (run_for f i m).machine in
      sym (stops-at-breaks breaks i m x refl)
      ∙ ap (λ u. is_none u && is_at breaks x) here.0.between
      ∙ ap (λ (c : Cpu). list_any (λ addr. addr == c.pc) breaks) there.cpu
      ∙ none

  -- what is noted of idle states is what begins in them
  pub idles-noted : (r q : Buffer Begun) (end first : ℕ) (m : Machine X) → m.time ≤ end → IdlesFor f (end - m.time) m → m.time ≤ first → first ≤ end →
      (first ≡ m.time) ⊎ (first + r.capacity ≤ end) → q ≡ buffer (keep_last r.capacity (r.items ++ idle_states first m.cpu.pc (end - first))) r.capacity →
      q ≡ buffer (keep_last r.capacity (r.items ++ begun_for f (end - m.time) m)) r.capacity
  idles-noted r q end first m ahead idles low high which noted =
      let n : ℕ = end - m.time in
      let cap : ℕ = r.capacity in
      let sum : m.time + n ≡ end = omega arith in
      let choice : (first ≡ m.time) ⊎ (first + cap ≤ m.time + n) = by_which which in
      noted
      ∙ ap (λ i. buffer (keep_last cap (r.items ++ idle_states first m.cpu.pc (i - first))) cap) (sym sum)
      ∙ ap (λ xs. buffer xs cap) (idle-last cap r.items m.time m.cpu.pc n first low (omega arith) choice)
      ∙ ap (λ xs. buffer (keep_last cap (r.items ++ xs)) cap) (sym (idles-begun n n m idles (omega arith)))
    where
      by_which : (first ≡ m.time) ⊎ (first + r.capacity ≤ end) → (first ≡ m.time) ⊎ (first + r.capacity ≤ m.time + (end - m.time))
      by_which (inl same) = inl same
      by_which (inr enough) = inr (omega arith)

  -- a machine that has idled up to a state stands there
  pub idles-stood : (end : ℕ) (m n : Machine X) → m.time < end → IdlesFor f (end - m.time) m → n ≡ (run_for f (end - m.time) m).machine → Stood f (end - m.time) m n
  idles-stood end m n ahead idles is = record { machine = is; time = ap (λ (x : Machine X). x.time) is ∙ (idles-there (end - m.time) (end - m.time) m idles (omega arith)).time }

  -- ---- activities one after the other

  idles-now : (n : ℕ) (m : Machine X) → IdlesFor f n m → 0 < n → IsIdle m × (asked m ≡ Go)
  idles-now n m idles some = subst (λ (x : Machine X). IsIdle x × (asked x ≡ Go)) (ap (λ (s : Stepped X). s.machine) (run-none f m)) (idles 0 some)

  idles-later : (n : ℕ) (m : Machine X) → IdlesFor f (suc n) m → IdlesFor f n (run_for f 1 m).machine
  idles-later n m idles k less = subst (λ (x : Machine X). IsIdle x × (asked x ≡ Go)) (machine-suc f k m) (idles (suc k) (omega arith))

  -- an idle state is an activity of one state
  idle-left : (m : Machine X) → IsIdle m → asked m ≡ Go → (current m).left ≡ 1
  idle-left m idle none =
      let end = quiet_end f m.time m idle none (omega arith) (λ k less. absurd (omega (arith, less))) in
      let zero_more : m.time - m.time ≡ 0 = omega arith in
      let stays : (run_to f m.time m).machine ≡ m = ap (λ i. (run_for f i m).machine) zero_more ∙ ap (λ (s : Stepped X). s.machine) (run-none f m) in
      let over : activity_end m ≡ m.time + 1 = ap activity_end (sym stays) ∙ end.over in
      omega (arith, over)

  -- a machine that idles, in the lines of one of whose states the sink has failed, stands at the end of that state
  pub idles-fail : (end : ℕ) (m : Machine X) (o : Out) (n : Machine X) (p : Out) → m.time < end → IdlesFor f (end - m.time) m → FailsIn f end m o n p →
      FailsWithin f (λ x. 1) (end - m.time) m o n p
  idles-fail end m o n p ahead idles fails =
      let k : ℕ = fails.began - m.time in
      let there : Machine X = (run_for f k m).machine in
      let less : k < end - m.time = omega (arith, fails.from, fails.begins, fails.over) in
      let here = idles k less in
      let time = (idles-there (end - m.time) k m idles (omega (arith, less))).time in
      let at : there.time ≡ fails.began = omega (arith, time, fails.from) in
      let left : (current there).left ≡ 1 = idle-left there here.0 here.1 in
      let over : activity_end there ≡ fails.began + 1 = omega (arith, at, left) in
      let next : n.time ≡ fails.began + 1 = omega (arith, fails.over, fails.from, over, less) in
      let one : n.time - there.time ≡ 1 = omega (arith, next, at) in
      let all : n.time - m.time ≡ k + 1 = omega (arith, next, fails.from) in
      record {
        before = k;
        there = there;
        stands = refl;
        mid = fails.mid;
        whole = fails.whole;
        unbroken = fails.unbroken;
        part = subst (λ i. Prints fails.mid (run_for f i there).records p) one fails.part;
        failed = fails.failed;
        few = omega (arith, less);
        machine = fails.stands ∙ ap (λ i. (run_for f i m).machine) all ∙ machine-add f k 1 m;
      }

  -- idle states pass one at a time in any case
  idles-alike : (at_once : Machine X → ℕ) (most : ℕ) (m : Machine X) (o : Out) (n : Machine X) (p : Out) → IdlesFor f most m →
      ((x : Machine X) → IsIdle x → asked x ≡ Go → at_once x ≡ 1) → FailsWithin f (λ x. 1) most m o n p → FailsWithin f at_once most m o n p
  idles-alike at_once most m o n p idles alike fails =
      let idle = idles fails.before (omega (arith, fails.few)) in
      let one : at_once fails.there ≡ 1 = ap at_once fails.stands ∙ alike (run_for f fails.before m).machine idle.0 idle.1 in
      record {
        before = fails.before;
        there = fails.there;
        stands = fails.stands;
        mid = fails.mid;
        whole = fails.whole;
        unbroken = fails.unbroken;
        part = subst (λ i. Prints fails.mid (run_for f i fails.there).records p) (sym one) fails.part;
        failed = fails.failed;
        few = omega (arith, fails.few, one);
        machine = fails.machine ∙ ap (λ i. (run_for f i fails.there).machine) (sym one);
      }

  pub idles-activity : (most : ℕ) (m : Machine X) (o : Out) (n : Machine X) (p : Out) → IdlesFor f most m → FailsWithin f (λ x. 1) most m o n p → FailsWithin f activity_states most m o n p
  idles-activity most m o n p idles fails = idles-alike activity_states most m o n p idles (λ x idle none. idle-left x idle none) fails

  pub idles-at-once : (until most : ℕ) (m : Machine X) (o : Out) (n : Machine X) (p : Out) → IdlesFor f most m → FailsWithin f (λ x. 1) most m o n p → FailsWithin f (states_at_once until) most m o n p
  idles-at-once until most m o n p idles fails = idles-alike (states_at_once until) most m o n p idles (λ x idle none. one x (nat_lt (until - x.time) 255) refl (idle-left x idle none)) fails
    where
      one : (x : Machine X) (near : Bool) → nat_lt (until - x.time) 255 ≡ near → activity_states x ≡ 1 → states_at_once until x ≡ 1
      one x true e left = ap (λ b. if b then 1 else activity_states x) e
      one x false e left = ap (λ b. if b then 1 else activity_states x) e ∙ left

  -- so many idle states are as many activities
  pub idles-activities : (n count : ℕ) (m : Machine X) → IdlesFor f n m → n ≤ count → states_of_activities f count m ≡ n + states_of_activities f (count - n) (run_for f n m).machine
  idles-activities zero count m idles few =
      let none = ap (λ (s : Stepped X). s.machine) (run-none f m) in
      let same : count ≡ count - 0 = omega arith in
      let z : (i : ℕ) → i ≡ 0 + i = λ i. omega arith in
      (λ i. states_of_activities f (same i) (sym none i)) ∙ z (states_of_activities f (count - 0) (run_for f 0 m).machine)
  idles-activities (suc n) count m idles few =
      let now = idles-now (suc n) m idles (omega arith) in
      let next : Machine X = (run_for f 1 m).machine in
      let left : (current m).left ≡ 1 = idle-left m now.0 now.1 in
      let more = states-more f count (count - 1) m next (omega arith) (ap (λ i. (run_for f i m).machine) (sym left)) in
      let rest = idles-activities n (count - 1) next (idles-later n m idles) (omega arith) in
      let fewer : count - 1 - n ≡ count - suc n = omega arith in
      let last : states_of_activities f (count - 1 - n) (run_for f n next).machine ≡ states_of_activities f (count - suc n) (run_for f (suc n) m).machine =
      λ i. states_of_activities f (fewer i) (sym (machine-suc f n m) i) in
      omega (arith, left, more, rest, last)
