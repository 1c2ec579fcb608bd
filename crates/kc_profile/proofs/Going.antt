-- A run that is counted, on its way.
use Rattle.std.proofs.Common.{◌≡◌, ℕ, zero, suc, ◌+◌, ◌-◌, ◌*◌, ◌<◌, ◌≤◌, min, max, ◌⊎◌, inl, inr, List, [], ◌++◌, length, Some, None, refl, sym, ap, subst, ◌∙◌, append_assoc, append-nil, length-append, arith}
use Rattle.std.specs.Prelude.{replicate}
use Rattle.std.proofs.lemmas.Bool.{cases_lt}
use Rattle.std.proofs.lemmas.List.{length-replicate}
use Rattle.kc_extra.specs.Further.{Further}
use Rattle.kc_trace.specs.Out.{Out, Prints}
use Rattle.kc_trace.proofs.Printed.{Prints-append}
use Rattle.kc_machine_spec.specs.declared.doing.End.{End}
use Rattle.kc_machine_spec.specs.Machine.{Machine, Stepped, current}
use Rattle.kc_machine_spec.specs.Passing.{activity_end}
use Rattle.kc_machine_spec.specs.Run.{and_then, run_for, run_to}
use Rattle.kc_machine_spec.proofs.Runs.{run-none, run_to-append, run_to-still, run_to-touch}
use Rattle.kc_machine_spec.proofs.Coming.{Came, Came-first, Came-next, Came-far, Came-over}
use Rattle.kc_machine.specs.Failing.{FailsIn}
use Rattle.kc_machine.specs.Stepping.{IsBrief, IdlesFor}
use Rattle.kc_profile.specs.declared.spot.Spot.{Spot}
use Rattle.kc_profile.specs.Spots.{coming_spot, spots_for}
use Rattle.kc_profile.specs.Tally.{Tally, IsTallyOf, total}
use Rattle.kc_profile.specs.Passing.{LastsFor, Passed}
use Rattle.kc_profile.proofs.Spotted.{spots-one, spots-none, spots-ended, spots-add, spots-activity, end-stays, end-idle}

module _ {X : Type 0} (f : Further X) where
  -- ---- some states

  -- the lines of a run that has come to its state
  pub ran-lines : (stop : ℕ) (m : Machine X) (o : Out) (n : Machine X) (p : Out) → LastsFor f (stop - m.time) m → m.time ≤ stop → n ≡ (run_to f stop m).machine → Prints o (run_to f stop m).records p → Prints o (run_to f n.time m).records p
  ran-lines stop m o n p lasts ahead is lines =
      let there = lasts (stop - m.time) (omega arith) in
      let time : n.time ≡ stop = ap (λ (k : Machine X). k.time) is ∙ there ∙ (let e : m.time + (stop - m.time) ≡ stop = omega arith in e) in
      subst (λ i. Prints o (run_to f i m).records p) (sym time) lines

  pub activity-passed : (until : ℕ) (m : Machine X) (o : Out) (n : Machine X) (p : Out) → m.ended ≡ None → IsBrief m → n.time ≡ activity_end m → activity_end m ≤ until → n ≡ (run_to f (activity_end m) m).machine →
      Prints o (run_to f (activity_end m) m).records p → Passed f until m o n p
  activity-passed until m o n p lives brief time within is lines = record {
    forward = omega (arith, brief.some, time);
    within = omega (arith, time, within);
    machine = is ∙ ap (λ i. (run_to f i m).machine) (sym time);
    lines = subst (λ i. Prints o (run_to f i m).records p) (sym time) lines;
    spots = spots-activity f (n.time - m.time) m lives (omega (arith, time));
  }

  -- ---- where the sink has failed

  -- what was written up to where the machine stands
  pub fails-lines : (stop : ℕ) (m : Machine X) (o : Out) (n : Machine X) (p : Out) → LastsFor f (stop - m.time) m → n.time ≤ stop → FailsIn f stop m o n p → Prints o (run_to f n.time m).records p
  fails-lines stop m o n p lasts within fails =
      let k : ℕ = fails.began - m.time in
      let less : k ≤ stop - m.time = omega (arith, fails.begins, within) in
      let there : (run_to f fails.began m).machine.time ≡ fails.began = lasts k less ∙ (let e : m.time + k ≡ fails.began = omega (arith, fails.from) in e) in
      let parts : run_to f n.time m ≡ and_then (run_to f fails.began m) (run_to f n.time) = run_to-append f fails.began n.time m fails.from (omega (arith, fails.begins)) there in
      subst (λ xs. Prints o xs p) (sym (ap (λ (s : Stepped X). s.records) parts)) (Prints-append o _ fails.mid _ p fails.whole fails.part)

  -- in a run that goes further than to the end of that activity
  fails-further : (stop until : ℕ) (m : Machine X) (o : Out) (n : Machine X) (p : Out) → stop ≤ until → (fails : FailsIn f stop m o n p) → activity_end (run_to f fails.began m).machine ≤ stop → FailsIn f until m o n p
  fails-further stop until m o n p further fails over = record {
    began = fails.began;
    mid = fails.mid;
    from = fails.from;
    begins = fails.begins;
    whole = fails.whole;
    unbroken = fails.unbroken;
    part = fails.part;
    failed = fails.failed;
    stands = fails.stands;
    over = fails.over ∙ (let e : min stop (activity_end (run_to f fails.began m).machine) ≡ min until (activity_end (run_to f fails.began m).machine) = omega (arith, over, further) in e);
  }

  pub fails-idle : (stop until : ℕ) (m : Machine X) (o : Out) (n : Machine X) (p : Out) → IdlesFor f (stop - m.time) m → stop ≤ until → n.time ≤ stop → FailsIn f stop m o n p → FailsIn f until m o n p
  fails-idle stop until m o n p idles further within fails =
      let before : fails.began < stop = omega (arith, fails.begins, within) in
      let over = end-idle f fails.began stop m idles fails.from before in
      fails-further stop until m o n p further fails (omega (arith, over, before))

  pub fails-activity : (until : ℕ) (m : Machine X) (o : Out) (n : Machine X) (p : Out) → m.ended ≡ None → activity_end m ≤ until → n.time ≡ activity_end m → FailsIn f (activity_end m) m o n p → FailsIn f until m o n p
  fails-activity until m o n p lives further time fails =
      let over = end-stays f fails.began m lives fails.from (omega (arith, fails.begins, time)) in
      fails-further (activity_end m) until m o n p further fails (omega (arith, over))

  -- behind what was written before
  pub fails-later : (until : ℕ) (m0 : Machine X) (o0 : Out) (m : Machine X) (o : Out) (n : Machine X) (p : Out) → Came f m0 o0 m o → FailsIn f until m o n p → FailsIn f until m0 o0 n p
  fails-later until m0 o0 m o n p came fails =
      let began : ℕ = fails.began in
      let time : (run_to f m.time m0).machine.time ≡ m.time = ap (λ (k : Machine X). k.time) (sym came.machine) in
      let parts : (to : ℕ) → m.time ≤ to → run_to f to m0 ≡ and_then (run_to f m.time m0) (λ k. run_to f to m) = λ to ahead.
      run_to-append f m.time to m0 came.forward ahead time ∙ ap (λ s. and_then (run_to f m.time m0) (λ k. s)) (ap (run_to f to) (sym came.machine)) in
      let first = parts began fails.from in
      let there : (run_to f began m0).machine ≡ (run_to f began m).machine = ap (λ (s : Stepped X). s.machine) first in
      record {
        began = began;
        mid = fails.mid;
        from = omega (arith, came.forward, fails.from);
        begins = fails.begins;
        whole = subst (λ xs. Prints o0 xs fails.mid) (sym (ap (λ (s : Stepped X). s.records) first)) (Prints-append o0 _ o _ fails.mid came.lines fails.whole);
        unbroken = fails.unbroken;
        part = subst (λ (k : Machine X). Prints fails.mid (run_to f n.time k).records p) (sym there) fails.part;
        failed = fails.failed;
        stands = fails.stands ∙ sym (ap (λ (s : Stepped X). s.machine) (parts n.time (omega (arith, fails.from, fails.begins))));
        over = fails.over ∙ ap (λ (k : Machine X). min until (activity_end k)) (sym there);
      }

  -- ---- what was counted

  -- where the states go up to a machine on the way, and some states of one spot behind it
  spots-next : (until : ℕ) (m0 : Machine X) (o0 : Out) (m : Machine X) (o : Out) (n : Machine X) (p : Out) → Came f m0 o0 m o → Passed f until m o n p →
      spots_for f (n.time - m0.time) m0 ≡ spots_for f (m.time - m0.time) m0 ++ replicate (n.time - m.time) (coming_spot m)
  spots-next until m0 o0 m o n p came passed =
      let a : ℕ = m.time - m0.time in
      let b : ℕ = n.time - m.time in
      let sum : n.time - m0.time ≡ a + b = omega (arith, came.forward, passed.forward) in
      ap (λ i. spots_for f i m0) sum
      ∙ spots-add f a b m0
      ∙ ap (λ k. spots_for f a m0 ++ spots_for f b k) (sym came.machine)
      ∙ ap (λ xs. spots_for f a m0 ++ xs) passed.spots

  -- no more states go anywhere behind the end of a run
  pub spots-done : (until : ℕ) (m0 : Machine X) (o0 : Out) (m : Machine X) (o : Out) → Came f m0 o0 m o → m.time ≤ max until m0.time → ((how : End) × (m.ended ≡ Some how)) ⊎ (until ≤ m.time) →
      spots_for f (until - m0.time) m0 ≡ spots_for f (m.time - m0.time) m0
  spots-done until m0 o0 m o came within (inr far) =
      let e : until - m0.time ≡ m.time - m0.time = omega (arith, came.forward) in
      ap (λ i. spots_for f i m0) e
  spots-done until m0 o0 m o came within (inl over) =
      let a : ℕ = m.time - m0.time in
      let b : ℕ = until - m.time in
      let sum : until - m0.time ≡ a + b = omega (arith, came.forward, within) in
      ap (λ i. spots_for f i m0) sum
      ∙ spots-add f a b m0
      ∙ ap (λ k. spots_for f a m0 ++ spots_for f b k) (sym came.machine)
      ∙ ap (λ xs. spots_for f a m0 ++ xs) (spots-ended f b m over.0 over.1)
      ∙ append-nil (spots_for f a m0)

  -- ---- a run on its way: from one machine, trace, tally, count of calls and count of moves to others

  pub record Along (until : ℕ) (m0 : Machine X) (o0 : Out) (t0 : Tally) (s0 v0 : ℕ) (m : Machine X) (o : Out) (t : Tally) (s v : ℕ) : Type 0 where
    pub came : Came f m0 o0 m o
    pub within : m.time ≤ max until m0.time
    pub steps : s ≤ s0 + 4 * (run_to f m.time m0).touch
    pub moves : v ≤ v0 + 4 * (run_to f m.time m0).touch
    pub tally : (before : List Spot) → IsTallyOf before t0 → IsTallyOf (before ++ spots_for f (m.time - m0.time) m0) t
    pub states : length (spots_for f (m.time - m0.time) m0) ≡ m.time - m0.time
    pub sum : total t ≡ total t0 + (m.time - m0.time)

  pub along-first : (until : ℕ) (m : Machine X) (o : Out) (t : Tally) (s v : ℕ) → Along until m o t s v m o t s v
  along-first until m o t s v =
      let none : m.time - m.time ≡ 0 = omega arith in
      let spots : spots_for f (m.time - m.time) m ≡ [] = ap (λ i. spots_for f i m) none ∙ spots-none f m in
      record {
        came = Came-first f m o;
        within = omega arith;
        steps = omega arith;
        moves = omega arith;
        tally = λ before is. subst (λ xs. IsTallyOf xs t) (sym (append-nil before) ∙ ap (λ xs. before ++ xs) (sym spots)) is;
        states = ap length spots ∙ sym none;
        sum = (let e : (n : ℕ) → n ≡ n + 0 = λ n. omega arith in e (total t)) ∙ ap (λ i. total t + i) (sym none);
      }

  pub along-next : (until : ℕ) (m0 : Machine X) (o0 : Out) (t0 : Tally) (s0 v0 : ℕ) (m : Machine X) (o : Out) (t : Tally) (s v : ℕ) (n : Machine X) (p : Out) (u : Tally) (r w : ℕ) →
      Along until m0 o0 t0 s0 v0 m o t s v → Passed f until m o n p → r ≤ s + 4 * (run_to f n.time m).touch → w ≤ v + 4 * (run_to f n.time m).touch →
      ((before : List Spot) → IsTallyOf before t → IsTallyOf (before ++ replicate (n.time - m.time) (coming_spot m)) u) → total u ≡ total t + (n.time - m.time) →
      Along until m0 o0 t0 s0 v0 n p u r w
  along-next until m0 o0 t0 s0 v0 m o t s v n p u r w along passed steps moves tally sum =
      let came = along.came in
      let spots = spots-next until m0 o0 m o n p came passed in
      let cost = run_to-touch f m.time n.time m0 m came.forward (omega (arith, passed.forward)) refl came.machine in
      let longer : length (spots_for f (n.time - m0.time) m0) ≡ (m.time - m0.time) + (n.time - m.time) =
      ap length spots ∙ length-append (spots_for f (m.time - m0.time) m0) (replicate (n.time - m.time) (coming_spot m))
      ∙ ap (λ i. i + length (replicate (n.time - m.time) (coming_spot m))) along.states
      ∙ ap (λ i. (m.time - m0.time) + i) (length-replicate (n.time - m.time) (coming_spot m)) in
      let time : (m.time - m0.time) + (n.time - m.time) ≡ n.time - m0.time = omega (arith, came.forward, passed.forward) in
      record {
        came = Came-next f m0 o0 m o n p came passed.forward passed.machine passed.lines;
        within = omega (arith, passed.within);
        steps = omega (arith, along.steps, steps, cost);
        moves = omega (arith, along.moves, moves, cost);
        tally = λ before is. subst (λ xs. IsTallyOf xs u)
            (append_assoc before (spots_for f (m.time - m0.time) m0) (replicate (n.time - m.time) (coming_spot m)) ∙ ap (λ xs. before ++ xs) (sym spots))
            (tally (before ++ spots_for f (m.time - m0.time) m0) (along.tally before is));
        states = longer ∙ time;
        sum = omega (arith, sum, along.sum, time);
      }

  -- a machine that has gone nowhere is the first
  pub along-same : (until : ℕ) (m0 : Machine X) (o0 : Out) (t0 : Tally) (s0 v0 : ℕ) (m : Machine X) (o : Out) (t : Tally) (s v : ℕ) → Along until m0 o0 t0 s0 v0 m o t s v → m.time ≤ m0.time → m ≡ m0
  along-same until m0 o0 t0 s0 v0 m o t s v along none = along.came.machine ∙ ap (λ (k : Stepped X). k.machine) (run_to-still f m.time m0 none)

  -- ---- its end

  pub over-same : (until : ℕ) (m0 : Machine X) (o0 : Out) (t0 : Tally) (s0 v0 : ℕ) (m : Machine X) (o : Out) (t : Tally) (s v : ℕ) (how : End) → Along until m0 o0 t0 s0 v0 m o t s v → m.ended ≡ Some how → run_to f until m0 ≡ run_to f m.time m0
  over-same until m0 o0 t0 s0 v0 m o t s v how along over = Came-over f m0 o0 m o until how along.came along.within over

  pub far-same : (until : ℕ) (m0 : Machine X) (o0 : Out) (t0 : Tally) (s0 v0 : ℕ) (m : Machine X) (o : Out) (t : Tally) (s v : ℕ) → Along until m0 o0 t0 s0 v0 m o t s v → until ≤ m.time → run_to f until m0 ≡ run_to f m.time m0
  far-same until m0 o0 t0 s0 v0 m o t s v along far = Came-far f m0 o0 m o until along.came far along.within

  pub over-goes : (until : ℕ) (m0 : Machine X) (o0 : Out) (t0 : Tally) (s0 v0 : ℕ) (m : Machine X) (o : Out) (t : Tally) (s v : ℕ) (how : End) → Along until m0 o0 t0 s0 v0 m o t s v → m.ended ≡ Some how → m0.ended ≡ None → m0.time < m.time
  over-goes until m0 o0 t0 s0 v0 m o t s v how along over lives = elim (cases_lt m0.time m.time) [
    | inl further ↦ further
    | inr none ↦
        let same : m ≡ m0 = along-same until m0 o0 t0 s0 v0 m o t s v along none in
        absurd (let e : None ≡ Some how = sym lives ∙ ap (λ (k : Machine X). k.ended) (sym same) ∙ over in cc)
  ]

  -- ---- one state, or to the end of an activity

  -- a call that was to end with the present activity, of which at least one state is left
  pub fails-within : (stop until : ℕ) (m : Machine X) (o : Out) (n : Machine X) (p : Out) → m.ended ≡ None → stop ≡ min until (m.time + max (current m).left 1) → n.time ≤ stop → FailsIn f stop m o n p → FailsIn f until m o n p
  fails-within stop until m o n p lives is within fails = elim (cases_lt fails.began (activity_end m)) [
    | inl inside ↦
        let over = end-stays f fails.began m lives fails.from inside in
        record {
          began = fails.began;
          mid = fails.mid;
          from = fails.from;
          begins = fails.begins;
          whole = fails.whole;
          unbroken = fails.unbroken;
          part = fails.part;
          failed = fails.failed;
          stands = fails.stands;
          over = fails.over ∙ (let e : min stop (activity_end (run_to f fails.began m).machine) ≡ min until (activity_end (run_to f fails.began m).machine) = omega (arith, over, is, inside, fails.from) in e);
        }
    | inr past ↦
        -- an activity of no state: it is the first, and would be over at once
        let here : fails.began ≡ m.time = omega (arith, past, fails.from, fails.begins, within, is) in
        let none : fails.began - m.time ≡ 0 = omega (arith, here) in
        let same : activity_end (run_to f fails.began m).machine ≡ activity_end m = ap (λ i. activity_end (run_for f i m).machine) none ∙ ap (λ (s : Stepped X). activity_end s.machine) (run-none f m) in
        absurd (omega (arith, fails.over, same, past, here, fails.begins))
  ]

  pub spots-within : (k : ℕ) (m : Machine X) → m.ended ≡ None → k ≤ max (current m).left 1 → spots_for f k m ≡ replicate k (coming_spot m)
  spots-within k m lives few = elim (cases_lt 1 k) [
    | inl more ↦ spots-activity f k m lives (omega (arith, more, few))
    | inr less ↦ spots-first k m lives less
  ]
    where
      spots-first : (k : ℕ) (m : Machine X) → m.ended ≡ None → k ≤ 1 → spots_for f k m ≡ replicate k (coming_spot m)
      spots-first zero m lives few = spots-none f m
      spots-first (suc zero) m lives few = spots-one f m lives
      spots-first (suc (suc k)) m lives few = absurd (omega (arith, few))
