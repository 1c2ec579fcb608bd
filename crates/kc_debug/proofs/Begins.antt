-- The activities that begin in some states, and what stops a run.
use Rattle.std.proofs.Common.{◌≡◌, ℕ, zero, suc, ◌+◌, ◌-◌, ◌<◌, ◌≤◌, inl, inr, Bool, true, false, cond, is_none, ◌&&◌, ◌||◌, List, [], ◌++◌, Option, Some, None, refl, sym, ap, ◌∙◌, append_assoc, append-nil, zero-add, arith}
use Rattle.std.proofs.lemmas.Bool.{cases_lt}
use Rattle.kc_extra.specs.Further.{Further}
use Rattle.kc_machine_spec.specs.declared.doing.End.{End}
use Rattle.kc_machine_spec.specs.declared.doing.UnderWay.{UnderWay}
use Rattle.kc_machine_spec.specs.Machine.{Machine, Stepped, current}
use Rattle.kc_machine_spec.specs.Run.{still, run_for}
use Rattle.kc_machine_spec.specs.Passing.{passed}
use Rattle.kc_machine_spec.proofs.Runs.{run_for-ended, run_for-add, run_for-cut, waits, run-none, machine-add, machine-suc}
use Rattle.kc_debug.specs.Activities.{beginning, unless_over, begun_for}
use Rattle.kc_debug.specs.Stops.{Stopping, noted_for, states_of_activities, states_to_stop, stops_at, stops_behind}
use Rattle.kc_debug.specs.Passing.{IsClear}

module _ {X : Type 0} (f : Further X) where
  -- ---- activities

  pub begun-none : (m : Machine X) → begun_for f 0 m ≡ []
  unfolding begun_for
  begun-none m = refl

  begun-suc : (k : ℕ) (m : Machine X) → begun_for f (suc k) m ≡ unless_over m.ended (beginning m ++ begun_for f k (run_for f 1 m).machine)
  unfolding begun_for
  begun-suc k m = refl

  -- nothing begins behind the end
  pub begun-ended : (k : ℕ) (m : Machine X) (how : End) → m.ended ≡ Some how → begun_for f k m ≡ []
  begun-ended zero m how over = begun-none m
  begun-ended (suc k) m how over = begun-suc k m ∙ ap (λ o. unless_over o (beginning m ++ begun_for f k (run_for f 1 m).machine)) over

  begun-lives : (k : ℕ) (m : Machine X) → m.ended ≡ None → begun_for f (suc k) m ≡ beginning m ++ begun_for f k (run_for f 1 m).machine
  begun-lives k m lives = begun-suc k m ∙ ap (λ o. unless_over o (beginning m ++ begun_for f k (run_for f 1 m).machine)) lives

  pub begun-one : (m : Machine X) → m.ended ≡ None → begun_for f 1 m ≡ beginning m
  begun-one m lives = begun-lives 0 m lives ∙ ap (λ xs. beginning m ++ xs) (begun-none (run_for f 1 m).machine) ∙ append-nil (beginning m)

  -- in two parts
  pub begun-add : (a b : ℕ) (m : Machine X) → begun_for f (a + b) m ≡ begun_for f a m ++ begun_for f b (run_for f a m).machine
  begun-add zero b m =
      ap (λ n. begun_for f n m) (zero-add b)
      ∙ ap (λ (s : Stepped X). begun_for f b s.machine) (sym (run-none f m))
      ∙ ap (λ xs. xs ++ begun_for f b (run_for f 0 m).machine) (sym (begun-none m))
  begun-add (suc a) b m = by_end m.ended refl (begun-add a b (run_for f 1 m).machine)
    where
      by_end : (ended : Option End) → m.ended ≡ ended → begun_for f (a + b) (run_for f 1 m).machine ≡ begun_for f a (run_for f 1 m).machine ++ begun_for f b (run_for f a (run_for f 1 m).machine).machine → begun_for f (suc a + b) m ≡ begun_for f (suc a) m ++ begun_for f b (run_for f (suc a) m).machine
      by_end (Some how) e rest =
          begun-ended (suc a + b) m how e
          ∙ sym (begun-ended b m how e)
          ∙ ap (λ (s : Stepped X). begun_for f b s.machine) (sym (run_for-ended f (suc a) m how e))
          ∙ ap (λ xs. xs ++ begun_for f b (run_for f (suc a) m).machine) (sym (begun-ended (suc a) m how e))
      by_end None e rest =
          let n : suc a + b ≡ suc (a + b) = omega arith in
          let next : Machine X = (run_for f 1 m).machine in
          ap (λ i. begun_for f i m) n
          ∙ begun-lives (a + b) m e
          ∙ ap (λ xs. beginning m ++ xs) rest
          ∙ sym (append_assoc (beginning m) (begun_for f a next) (begun_for f b (run_for f a next).machine))
          ∙ ap (λ xs. xs ++ begun_for f b (run_for f a next).machine) (sym (begun-lives a m e))
          ∙ ap (λ k. begun_for f (suc a) m ++ begun_for f b k) (sym (machine-suc f a m))

  -- nothing begins while an activity is under way
  begun-waits : (k : ℕ) (m : Machine X) (a : UnderWay) → m.ended ≡ None → m.under_way ≡ Some a → k ≤ a.left → begun_for f k m ≡ []
  begun-waits zero m a lives busy few = begun-none m
  begun-waits (suc k) m a lives busy few =
      let n : suc k ≡ k + 1 = omega arith in
      let there : run_for f k m ≡ passed f m a k = waits f k m a lives busy (omega arith) in
      let mid : Machine X = (passed f m a k).machine in
      ap (λ i. begun_for f i m) n
      ∙ begun-add k 1 m
      ∙ ap (λ xs. xs ++ begun_for f 1 (run_for f k m).machine) (begun-waits k m a lives busy (omega arith))
      ∙ ap (λ (s : Stepped X). begun_for f 1 s.machine) there
      ∙ begun-one mid lives

  -- in one activity, its own beginning alone
  pub begun-activity : (n : ℕ) (m : Machine X) → m.ended ≡ None → 0 < n → (1 < n → n ≤ (current m).left) → begun_for f n m ≡ beginning m
  begun-activity n m lives some few = elim (cases_lt 1 n) [
    | inr one ↦
        let e : n ≡ 1 = omega arith in
        ap (λ i. begun_for f i m) e ∙ begun-one m lives
    | inl more ↦
        let left : n ≤ (current m).left = few more in
        let e : n ≡ suc (n - 1) = omega arith in
        let next : run_for f 1 m ≡ passed f m (current m) 1 = run_for-cut f 1 m (current m) lives refl (omega arith) (omega arith) in
        let mid : Machine X = (passed f m (current m) 1).machine in
        ap (λ i. begun_for f i m) e
        ∙ begun-lives (n - 1) m lives
        ∙ ap (λ (s : Stepped X). beginning m ++ begun_for f (n - 1) s.machine) next
        ∙ ap (λ xs. beginning m ++ xs) (begun-waits (n - 1) mid (record (current m) { left = (current m).left - 1 }) lives refl (omega arith))
        ∙ append-nil (beginning m)
  ]

  -- ---- what stops a run

  module _ (s : Stopping X) where
    pub noted-none : (noted : Bool) (m : Machine X) → noted_for f s noted 0 m ≡ noted
    unfolding noted_for
    noted-none noted m = refl

    noted-suc : (noted : Bool) (k : ℕ) (m : Machine X) → noted_for f s noted (suc k) m ≡ noted_for f s (noted || s.notes m (run_for f 1 m)) k (run_for f 1 m).machine
    unfolding noted_for
    noted-suc noted k m = refl

    -- in two parts
    pub noted-add : (a b : ℕ) (noted : Bool) (m : Machine X) → noted_for f s noted (a + b) m ≡ noted_for f s (noted_for f s noted a m) b (run_for f a m).machine
    noted-add zero b noted m =
        ap (λ n. noted_for f s noted n m) (zero-add b)
        ∙ ap (λ (st : Stepped X). noted_for f s noted b st.machine) (sym (run-none f m))
        ∙ ap (λ n. noted_for f s n b (run_for f 0 m).machine) (sym (noted-none noted m))
    noted-add (suc a) b noted m =
        let n : suc a + b ≡ suc (a + b) = omega arith in
        let next : Machine X = (run_for f 1 m).machine in
        let here : Bool = noted || s.notes m (run_for f 1 m) in
        ap (λ i. noted_for f s noted i m) n
        ∙ noted-suc noted (a + b) m
        ∙ noted-add a b here next
        ∙ ap (λ k. noted_for f s (noted_for f s here a next) b k) (sym (machine-suc f a m))
        ∙ ap (λ k. noted_for f s k b (run_for f (suc a) m).machine) (sym (noted-suc noted a m))

    -- a run stops behind some states more
    pub behind-add : (a b : ℕ) (noted : Bool) (m : Machine X) → stops_behind f s noted (a + b) m ≡ stops_behind f s (noted_for f s noted a m) b (run_for f a m).machine
    behind-add a b noted m =
        ap (λ n. stops_at s n (run_for f (a + b) m).machine) (noted-add a b noted m)
        ∙ ap (stops_at s (noted_for f s (noted_for f s noted a m) b (run_for f a m).machine)) (machine-add f a b m)

    pub stop-none : (noted : Bool) (m : Machine X) → states_to_stop f s noted 0 m ≡ 0
    unfolding states_to_stop
    stop-none noted m = refl

    stop-here : (noted : Bool) (k : ℕ) (m : Machine X) (here : Bool) → stops_at s (noted || s.notes m (run_for f 1 m)) (run_for f 1 m).machine ≡ here →
        states_to_stop f s noted (suc k) m ≡ suc (cond here 0 (states_to_stop f s (noted || s.notes m (run_for f 1 m)) k (run_for f 1 m).machine))
    unfolding states_to_stop
    stop-here noted k m here e = ap (λ b. suc (cond b 0 (states_to_stop f s (noted || s.notes m (run_for f 1 m)) k (run_for f 1 m).machine))) e

    noted-one : (noted : Bool) (m : Machine X) → noted_for f s noted 1 m ≡ (noted || s.notes m (run_for f 1 m))
    noted-one noted m = noted-suc noted 0 m ∙ noted-none (noted || s.notes m (run_for f 1 m)) (run_for f 1 m).machine

    stop-suc : (noted : Bool) (k : ℕ) (m : Machine X) (here : Bool) → stops_behind f s noted 1 m ≡ here →
        states_to_stop f s noted (suc k) m ≡ suc (cond here 0 (states_to_stop f s (noted_for f s noted 1 m) k (run_for f 1 m).machine))
    stop-suc noted k m here e =
        stop-here noted k m here (ap (λ n. stops_at s n (run_for f 1 m).machine) (sym (noted-one noted m)) ∙ e)
        ∙ ap (λ n. suc (cond here 0 (states_to_stop f s n k (run_for f 1 m).machine))) (sym (noted-one noted m))

    -- so many states without a stop
    stop-later : (n k : ℕ) (noted : Bool) (m : Machine X) → ((i : ℕ) → 0 < i → i ≤ n → stops_behind f s noted i m ≡ false) →
        states_to_stop f s noted (n + k) m ≡ n + states_to_stop f s (noted_for f s noted n m) k (run_for f n m).machine
    stop-later zero k noted m clear =
        let e : 0 + k ≡ k = omega arith in
        let z : (i : ℕ) → i ≡ 0 + i = λ i. omega arith in
        ap (λ i. states_to_stop f s noted i m) e
        ∙ ap (λ (st : Stepped X). states_to_stop f s noted k st.machine) (sym (run-none f m))
        ∙ ap (λ n. states_to_stop f s n k (run_for f 0 m).machine) (sym (noted-none noted m))
        ∙ z (states_to_stop f s (noted_for f s noted 0 m) k (run_for f 0 m).machine)
    stop-later (suc n) k noted m clear =
        let e : suc n + k ≡ suc (n + k) = omega arith in
        let one : (i : ℕ) → 1 + i ≡ suc i = λ i. omega arith in
        let next : Machine X = (run_for f 1 m).machine in
        let here : Bool = noted_for f s noted 1 m in
        let z : (i : ℕ) → suc (n + i) ≡ suc n + i = λ i. omega arith in
        ap (λ i. states_to_stop f s noted i m) e
        ∙ stop-suc noted (n + k) m false (clear 1 (omega arith) (omega arith))
        ∙ ap suc (stop-later n k here next (λ i some few. sym (behind-add 1 i noted m) ∙ ap (λ j. stops_behind f s noted j m) (one i) ∙ clear (suc i) (omega arith) (omega arith)))
        ∙ z (states_to_stop f s (noted_for f s here n next) k (run_for f n next).machine)
        ∙ ap (λ b. suc n + states_to_stop f s b k (run_for f n next).machine) (sym (noted-add 1 n noted m) ∙ ap (λ j. noted_for f s noted j m) (one n))
        ∙ ap (λ x. suc n + states_to_stop f s (noted_for f s noted (suc n) m) k x) (sym (machine-suc f n m))

    -- within an activity there is no stop
    within-clear : (noted : Bool) (i : ℕ) (m : Machine X) → m.ended ≡ None → 0 < i → i < (current m).left → stops_behind f s noted i m ≡ false
    within-clear noted i m lives some few = ap (λ (st : Stepped X). stops_at s (noted_for f s noted i m) st.machine) (run_for-cut f i m (current m) lives refl some few)

    pub activity-clear : (n : ℕ) (m : Machine X) → m.ended ≡ None → (1 < n → n ≤ (current m).left) → IsClear f s n m
    activity-clear n m lives few noted calm i some less = within-clear noted i m lives some (let left = few (omega arith) in omega arith)

    module _ (noted : Bool) (n k : ℕ) (m : Machine X) (clear : (i : ℕ) → 0 < i → i < n → stops_behind f s noted i m ≡ false) where
      -- some states without a stop, also behind them
      pub stop-past : (x : Machine X) → x ≡ (run_for f n m).machine → stops_behind f s noted n m ≡ false →
          states_to_stop f s noted (n + k) m ≡ n + states_to_stop f s (noted_for f s noted n m) k x
      stop-past x is none =
          stop-later n k noted m (λ i some within. elim (cases_lt i n) [
            | inl less ↦ clear i some less
            | inr last ↦ let e : i ≡ n = omega arith in ap (λ j. stops_behind f s noted j m) e ∙ none
          ])
          ∙ ap (λ y. n + states_to_stop f s (noted_for f s noted n m) k y) (sym is)

      -- and where one is behind them
      pub stop-there : 0 < n → stops_behind f s noted n m ≡ true → states_to_stop f s noted (n + k) m ≡ n
      stop-there some there =
          let e : n + k ≡ (n - 1) + suc k = omega arith in
          let last : (n - 1) + 1 ≡ n = omega arith in
          let mid : Machine X = (run_for f (n - 1) m).machine in
          let here : Bool = noted_for f s noted (n - 1) m in
          ap (λ i. states_to_stop f s noted i m) e
          ∙ stop-later (n - 1) (suc k) noted m (λ i some within. clear i some (omega arith))
          ∙ ap (λ i. (n - 1) + i) (stop-suc here k mid true (sym (behind-add (n - 1) 1 noted m) ∙ ap (λ i. stops_behind f s noted i m) last ∙ there))
          ∙ last

      -- with one behind them or not
      pub stop-any : 0 < n → (rest : ℕ) × (states_to_stop f s noted (n + k) m ≡ n + rest)
      stop-any some = by_stop (stops_behind f s noted n m) refl
        where
          by_stop : (here : Bool) → stops_behind f s noted n m ≡ here → (rest : ℕ) × (states_to_stop f s noted (n + k) m ≡ n + rest)
          by_stop true e = (0, stop-there some e ∙ (let z : n ≡ n + 0 = omega arith in z))
          by_stop false e = (states_to_stop f s (noted_for f s noted n m) k (run_for f n m).machine, stop-past _ refl e)

    -- a run to a state takes a state, where that is still to come
    pub stop-some : (noted : Bool) (k : ℕ) (m : Machine X) → 0 < k → 0 < states_to_stop f s noted k m
    unfolding states_to_stop
    stop-some noted zero m some = absurd (omega (arith, some))
    stop-some noted (suc k) m some = omega arith

    -- where a run does not stop between two activities, nothing was noted
    pub calm-there : (noted : Bool) (m : Machine X) → stops_at s noted m ≡ false → m.under_way ≡ None → noted ≡ false
    calm-there noted m none between = by_noted noted (ap (λ u. is_none u && (noted || s.stands m)) (sym between) ∙ none)
      where
        by_noted : (b : Bool) → (b || s.stands m) ≡ false → b ≡ false
        by_noted false h = refl
        by_noted true h = absurd (let t : true ≡ false = h in cc)

  -- ---- activities one after the other

  pub states-none : (m : Machine X) → states_of_activities f 0 m ≡ 0
  unfolding states_of_activities
  states-none m = refl

  pub states-more : (count more : ℕ) (m x : Machine X) → count ≡ suc more → x ≡ (run_for f (current m).left m).machine →
      states_of_activities f count m ≡ (current m).left + states_of_activities f more x
  unfolding states_of_activities
  states-more count more m x e is = ap (λ n. states_of_activities f n m) e ∙ ap (λ y. (current m).left + states_of_activities f more y) (sym is)
