-- A run on its way to a state, or to what stops it before: so many states have passed, behind none of which it has stopped.
use Rattle.std.proofs.Common.{◌≡◌, inl, ℕ, ◌+◌, ◌-◌, ◌<◌, ◌≤◌, max, Bool, true, false, None, refl, sym, ap, subst, ◌∙◌, arith}
use Rattle.circular_buffer.specs.Buffer.{Buffer}
use Rattle.kc_extra.specs.Further.{Further}
use Rattle.kc_trace.specs.Out.{Out}
use Rattle.kc_machine_spec.specs.Machine.{Machine}
use Rattle.kc_machine_spec.specs.Run.{run_for}
use Rattle.kc_debug.specs.declared.activities.Begun.{Begun}
use Rattle.kc_debug.specs.Passing.{AreAtOnce, IsClear, IsFollowed, IsKept, Reported, Stood}
use Rattle.kc_debug.specs.Stops.{Stopping, noted_for, states_to_stop, states_until, stops_behind}
use Rattle.kc_debug.proofs.Begins.{behind-add, calm-there, noted-add, noted-none, stop-any, stop-none, stop-past, stop-there}
use Rattle.kc_debug.proofs.Passing.{Along, along-first, along-next}

module _ {X : Type 0} (f : Further X) where
  -- a run that was followed to its end
  pub followed-up : (follows : ℕ → Type 0) (states n : ℕ) (m : Machine X) → n ≡ states → follows states → IsFollowed f follows n m
  followed-up follows states n m e there = record {
    looked = states;
    rest = 0;
    all = omega (arith, e);
    there = there;
    at_once = inl (λ k less. absurd (omega (arith, less)));
    lives = λ some. absurd (omega (arith, some));
  }

  -- or to states that passed at once there
  pub followed-so : (follows : ℕ → Type 0) (i a n : ℕ) (m : Machine X) → n ≡ i + a → AreAtOnce f a (run_for f i m).machine → (run_for f i m).machine.ended ≡ None → follows i → IsFollowed f follows n m
  followed-so follows i a n m e at_once lives there = record { looked = i; rest = a; all = e; there = there; at_once = at_once; lives = λ some. lives }

module _ {X : Type 0} (f : Further X) (stop : Stopping X) (until : ℕ) where
  pub record Onward (m0 : Machine X) (o0 : Out) (r0 : Buffer Begun) (states : ℕ) (m : Machine X) (o : Out) (r : Buffer Begun) : Type 0 where
    pub along : Along f m0 o0 r0 states m o r
    pub rest : states_until f stop until m0 ≡ states + states_to_stop f stop (noted_for f stop false states m0) (until - m.time) m
    pub calm : m.under_way ≡ None → noted_for f stop false states m0 ≡ false
    pub time : m.time ≤ max until m0.time
    pub span : m.time ≡ m0.time + states

  -- before the first state, of a machine that is the one that was looked at
  pub onward-first : (m x : Machine X) (o : Out) (r : Buffer Begun) → x ≡ m → IsKept r → Onward m o r 0 x o r
  onward-first m x o r same kept =
      let none : noted_for f stop false 0 m ≡ false = noted-none f stop false m in
      let all : states_until f stop until m ≡ 0 + states_to_stop f stop (noted_for f stop false 0 m) (until - m.time) m =
      (let e : (n : ℕ) → n ≡ 0 + n = λ n. omega arith in e (states_until f stop until m)) ∙ ap (λ b. 0 + states_to_stop f stop b (until - m.time) m) (sym none) in
      let time : x.time ≡ m.time = ap (λ (y : Machine X). y.time) same in
      record {
        along = subst (λ (y : Machine X). Along f m o r 0 y o r) (sym same) (along-first f m o r kept);
        rest = all ∙ ap (λ (y : Machine X). 0 + states_to_stop f stop (noted_for f stop false 0 m) (until - y.time) y) (sym same);
        calm = λ between. none;
        time = omega (arith, time);
        span = omega (arith, time);
      }

  module _ (states : ℕ) (m0 m : Machine X) (o0 : Out) (r0 : Buffer Begun) (o : Out) (r : Buffer Begun) (s : Onward m0 o0 r0 states m o r) where
    -- the state has come
    pub onward-over : until ≤ m.time → states_until f stop until m0 ≡ states
    onward-over past =
        let noted : Bool = noted_for f stop false states m0 in
        let none : until - m.time ≡ 0 = omega (arith, past) in
        let over : states_to_stop f stop noted (until - m.time) m ≡ 0 = ap (λ n. states_to_stop f stop noted n m) none ∙ stop-none f stop noted m in
        omega (arith, s.rest, over)

    -- states that pass at once pass behind those so far
    pub onward-at-once : (a : ℕ) → AreAtOnce f a m → AreAtOnce f a (run_for f states m0).machine
    onward-at-once a h = subst (AreAtOnce f a) s.along.machine h

    module _ (a : ℕ) (few : a ≤ until - m.time) (some : 0 < a) (free : IsClear f stop a m) where
      onward-clear : (i : ℕ) → 0 < i → i < a → stops_behind f stop (noted_for f stop false states m0) i m ≡ false
      onward-clear = free (noted_for f stop false states m0) s.calm

      -- behind them as behind all states so far
      onward-behind : stops_behind f stop false (states + a) m0 ≡ stops_behind f stop (noted_for f stop false states m0) a m
      onward-behind = behind-add f stop states a false m0 ∙ ap (stops_behind f stop (noted_for f stop false states m0) a) (sym s.along.machine)

      -- some states of the run, and others
      pub onward-part : (rest : ℕ) × (states_until f stop until m0 ≡ states + a + rest)
      onward-part =
          let noted : Bool = noted_for f stop false states m0 in
          let sum : until - m.time ≡ a + (until - m.time - a) = omega (arith, few) in
          let rest = stop-any f stop noted a (until - m.time - a) m onward-clear some in
          let all : states_to_stop f stop noted (until - m.time) m ≡ a + rest.0 = ap (λ n. states_to_stop f stop noted n m) sum ∙ rest.1 in
          (rest.0, omega (arith, s.rest, all))

      -- the run stops behind them
      pub onward-stop : stops_behind f stop false (states + a) m0 ≡ true → states_until f stop until m0 ≡ states + a
      onward-stop here =
          let noted : Bool = noted_for f stop false states m0 in
          let sum : until - m.time ≡ a + (until - m.time - a) = omega (arith, few) in
          let all : states_to_stop f stop noted (until - m.time) m ≡ a =
          ap (λ k. states_to_stop f stop noted k m) sum ∙ stop-there f stop noted a (until - m.time - a) m onward-clear some (sym onward-behind ∙ here) in
          omega (arith, s.rest, all)

      -- or not
      pub onward-next : (n : Machine X) (p : Out) (q : Buffer Begun) → Reported f a m o r p q → Stood f a m n → stops_behind f stop false (states + a) m0 ≡ false → Onward m0 o0 r0 (states + a) n p q
      onward-next n p q reported stood none =
          let noted : Bool = noted_for f stop false states m0 in
          let sum : until - m.time ≡ a + (until - n.time) = omega (arith, few, stood.time) in
          let later : noted_for f stop noted a m ≡ noted_for f stop false (states + a) m0 =
          ap (noted_for f stop noted a) s.along.machine ∙ sym (noted-add f stop states a false m0) in
          let all : states_to_stop f stop noted (until - m.time) m ≡ a + states_to_stop f stop (noted_for f stop false (states + a) m0) (until - n.time) n =
          ap (λ k. states_to_stop f stop noted k m) sum
          ∙ stop-past f stop noted a (until - n.time) m onward-clear n stood.machine (sym onward-behind ∙ none)
          ∙ ap (λ b. a + states_to_stop f stop b (until - n.time) n) later in
          let next = along-next f m0 o0 r0 states a m o r n p q s.along reported stood in
          record {
            along = next;
            rest = omega (arith, s.rest, all);
            calm = λ between. calm-there f stop (noted_for f stop false (states + a) m0) (run_for f (states + a) m0).machine none (ap (λ (x : Machine X). x.under_way) (sym next.machine) ∙ between);
            time = omega (arith, s.time, stood.time, few, some);
            span = omega (arith, s.span, stood.time);
          }
