-- A life that is run in spans: no deadline falls inside a span, so that it goes there as a run of the machine does.
use Rattle.std.proofs.Common.{◌≡◌, ℕ, zero, suc, ◌+◌, ◌-◌, ◌*◌, ◌<◌, ◌≤◌, ◌≢◌, Bool, true, false, eqb, List, [], ◌++◌, Option, Some, None, ◌⊎◌, inl, inr, refl, sym, ◌∙◌, ap, subst, append_assoc, append-nil, zero-add, arith}
use Rattle.std.proofs.lemmas.Bool.Decides.{nat_tests}
use Rattle.std.specs.Prelude.{is_some, ◌||◌, ◌==◌, Result, Ok, Err, OnErr}
use Rattle.kc_extra.specs.Further.{Further}
use Rattle.kc_trace.specs.declared.record.Record.{Record}
use Rattle.kc_trace.specs.Out.{Out, Puts}
use Rattle.kc_trace.specs.Text.{text_of}
use Rattle.kc_trace.proofs.Outs.{Puts-nothing, Puts-append, Puts-longer}
use Rattle.kc_trace.proofs.Printed.{text_of-nothing, text_of-append}
use Rattle.kc_machine_spec.specs.declared.doing.End.{End}
use Rattle.kc_machine_spec.specs.declared.doing.End.TheVariants as end
use Rattle.kc_machine_spec.specs.Text.{HasRun}
use Rattle.kc_machine_spec.specs.Machine.{Machine, Stepped, step, before}
use Rattle.kc_machine_spec.specs.Run.{still, and_then, end_of, run_for}
use Rattle.kc_machine_spec.proofs.Runs.{run_for-ended, run_for-suc, run_for-add, run_for-has_run}
use Rattle.kc_cycles.specs.Watching.{patience}
use Rattle.kc_cycles.specs.Life.{Life, over, bitten, is_at, goes_on, life_for}
use Rattle.kc_cycles.specs.Spans.{end_of_span}
use Rattle.kc_cycles.proofs.Keeping.{Keeps, step_keeps}

-- a deadline that is still to come, and not farther than a feeding sets it
abbrev pub IsAhead : Option ℕ → ℕ → Type 0
IsAhead None t = Unit {0}
IsAhead (Some at) t = (t < at) × (at ≤ t + patience)

module _ {X : Type 0} (deadline : X → Option ℕ) where
  -- what is done in a state leaves the deadline as it was, or sets it to a whole feeding from that state
  abbrev pub Moved : ℕ → X → X → Type 0
  Moved t x y = (deadline y ≡ deadline x) ⊎ (deadline y ≡ Some (t + patience))

  -- and so does what is done after that
  pub moved-next : (t : ℕ) (x y z : X) → Moved t x y → Moved t y z → Moved t x z
  moved-next t x y z p (inr e) = inr e
  moved-next t x y z (inl h) (inl e) = inl (e ∙ h)
  moved-next t x y z (inr h) (inl e) = inr (e ∙ h)

  -- a further unit whose deadline moves so
  pub record Feeds (f : Further X) : Type 0 where
    pub of_tick : (t levels edges : ℕ) (x : X) → Moved t x (f.step t levels edges x)
    pub of_start : (t : ℕ) (x : X) → Moved t x (f.started t x)
    pub of_read : (window sfr t : ℕ) (x : X) → Moved t x (f.after_read window sfr t x)
    pub of_write : (window sfr value t : ℕ) (x : X) → Moved t x (f.after_write window sfr value t x)

  -- a machine in a span that began in a state, with a deadline
  pub record InSpan (began : ℕ) (first : Option ℕ) (m : Machine X) : Type 0 where
    pub from : began ≤ m.time
    pub due : (deadline m.board.units.further ≡ first) ⊎ ((at : ℕ) × (deadline m.board.units.further ≡ Some at) × (began + patience ≤ at) × (at < m.time + patience))

  pub span-first : (m : Machine X) → InSpan m.time (deadline m.board.units.further) m
  span-first m = record { from = omega arith; due = inl refl }

  -- where a span ends
  pub record IsSpanEnd (began : ℕ) (first : Option ℕ) (stop : ℕ) : Type 0 where
    pub few : stop ≤ began + patience
    pub within : (at : ℕ) → first ≡ Some at → stop ≤ at

  pub span_end : (began : ℕ) (first : Option ℕ) (until : ℕ) → IsAhead first began → IsSpanEnd began first (end_of_span began first until)
  span_end began None until h = record { few = omega arith; within = λ at e. absurd cc }
  span_end began (Some d) until h = record { few = omega (arith, h.1); within = λ at e. let same : d ≡ at = cc in omega arith }

  -- it goes on, where it does not end with the states
  pub span_goes : (began : ℕ) (first : Option ℕ) (until : ℕ) → IsAhead first began → end_of_span began first until ≢ until → began < end_of_span began first until
  span_goes began None until h more = omega (arith, let same : until ≤ began + patience → end_of_span began None until ≡ until = λ le. omega arith in (λ (le : until ≤ began + patience). more (same le)))
  span_goes began (Some d) until h more = omega (arith, h.0, let same : until ≤ d → end_of_span began (Some d) until ≡ until = λ le. omega arith in (λ (le : until ≤ d). more (same le)))

  -- ---- no deadline comes inside it

  not_due : (began : ℕ) (first : Option ℕ) (stop : ℕ) (m : Machine X) → IsSpanEnd began first stop → InSpan began first m → m.time < stop → is_at (deadline m.board.units.further) m.time ≡ false
  not_due began first stop m ends span near = by_due span.due
    where
      by_first : (o : Option ℕ) → ((at : ℕ) → o ≡ Some at → stop ≤ at) → is_at o m.time ≡ false
      by_first None within = refl
      by_first (Some at) within = let le : stop ≤ at = within at refl in grind (arith, nat_tests)

      by_due : (deadline m.board.units.further ≡ first) ⊎ ((at : ℕ) × (deadline m.board.units.further ≡ Some at) × (began + patience ≤ at) × (at < m.time + patience)) → is_at (deadline m.board.units.further) m.time ≡ false
      by_due (inl e) = ap (λ o. is_at o m.time) e ∙ by_first first ends.within
      by_due (inr d) =
          let far : m.time < d.0 = omega (arith, d.2, ends.few) in
          let other : eqb d.0 m.time ≡ false = grind (arith, nat_tests) in
          ap (λ o. is_at o m.time) d.1 ∙ other

  -- ---- the deadline at the end of a span that does not end the life

  pub ahead-next : (began : ℕ) (first : Option ℕ) (stop : ℕ) (m : Machine X) → IsAhead first began → IsSpanEnd began first stop → InSpan began first m → m.time ≡ stop → began ≤ stop →
      is_at (deadline m.board.units.further) stop ≡ false → IsAhead (deadline m.board.units.further) m.time
  ahead-next began first stop m ahead ends span now forward none = by_due span.due
    where
      by_first : (o : Option ℕ) → IsAhead o began → ((at : ℕ) → o ≡ Some at → stop ≤ at) → is_at o stop ≡ false → IsAhead o m.time
      by_first None h within never = tt
      by_first (Some at) h within never =
          let le : stop ≤ at = within at refl in
          let other : at ≢ stop = λ e. absurd (let yes : eqb at stop ≡ true = grind (arith, nat_tests) in let c : true ≡ false = sym yes ∙ never in cc) in
          (omega (arith, now, le, other), omega (arith, now, h.1, forward))

      by_due : (deadline m.board.units.further ≡ first) ⊎ ((at : ℕ) × (deadline m.board.units.further ≡ Some at) × (began + patience ≤ at) × (at < m.time + patience)) → IsAhead (deadline m.board.units.further) m.time
      by_due (inl e) = subst (λ o. IsAhead o m.time) (sym e) (by_first first ahead ends.within (ap (λ o. is_at o stop) (sym e) ∙ none))
      by_due (inr d) =
          let never : is_at (Some d.0) stop ≡ false = ap (λ o. is_at o stop) (sym d.1) ∙ none in
          let other : d.0 ≢ stop = λ e. absurd (let yes : eqb d.0 stop ≡ true = grind (arith, nat_tests) in let c : true ≡ false = sym yes ∙ never in cc) in
          subst (λ o. IsAhead o m.time) (sym d.1) (omega (arith, now, d.2, ends.few, other), omega (arith, d.3))

  pub ahead-none : (x : X) (t : ℕ) → deadline x ≡ None → IsAhead (deadline x) t
  ahead-none x t e = subst (λ o. IsAhead o t) (sym e) tt

module _ {X : Type 0} (f : Further X) (deadline : X → Option ℕ) where
  -- ---- lives, by their first state

  pub life-ended : (n : ℕ) (m : Machine X) (how : End) → m.ended ≡ Some how → life_for f deadline n m ≡ over m
  unfolding life_for
  life-ended zero m how e = refl
  life-ended (suc n) m how e = rw e refl

  life-goes : (n : ℕ) (m : Machine X) → m.ended ≡ None → is_at (deadline m.board.units.further) m.time ≡ false → life_for f deadline (suc n) m ≡ goes_on (step f m) (life_for f deadline n)
  unfolding life_for
  life-goes n m e none = rw (e, none) refl

  pub life-spent : (n : ℕ) (m : Machine X) → n ≡ 0 → life_for f deadline n m ≡ over m
  unfolding life_for
  life-spent n m e = ap (λ k. life_for f deadline k m) e

  pub life-bitten : (n : ℕ) (m : Machine X) → 0 < n → m.ended ≡ None → is_at (deadline m.board.units.further) m.time ≡ true → life_for f deadline n m ≡ bitten m
  unfolding life_for
  life-bitten n m some e due =
      let more : n ≡ suc (n - 1) = omega arith in
      ap (λ k. life_for f deadline k m) more ∙ rw (e, due) refl

  -- ---- what comes before a life

  same_stepped : (m : Machine X) (xs ys : List Record) (v w : ℕ) → xs ≡ ys → v ≡ w → ◌≡◌ {A = Stepped X} (record { machine = m; records = xs; touch = v }) (record { machine = m; records = ys; touch = w })
  same_stepped m xs ys v w h g = ap (λ l. record { machine = m; records = l; touch = v }) h ∙ ap (λ n. record { machine = m; records = ys; touch = n }) g

  abbrev with_ran : Life X → Stepped X → Life X
  with_ran life ran = record life { ran = ran }

  pub nothing-before : (m : Machine X) (rest : Machine X → Life X) → goes_on (still m) rest ≡ rest m
  nothing-before m rest =
      let ran : Stepped X = (rest m).ran in
      ap (with_ran (rest m)) (same_stepped ran.machine ([] ++ ran.records) ran.records (0 + ran.touch) ran.touch refl (let e : 0 + ran.touch ≡ ran.touch = omega arith in e))

  before-more : (s : Stepped X) (r : Machine X → Stepped X) (rest : Machine X → Life X) → goes_on s (λ m. goes_on (r m) rest) ≡ goes_on (and_then s r) rest
  before-more s r rest =
      let mid : Stepped X = r s.machine in
      let life : Life X = rest mid.machine in
      ap (with_ran life) (same_stepped life.ran.machine (s.records ++ (mid.records ++ life.ran.records)) ((s.records ++ mid.records) ++ life.ran.records) (s.touch + (mid.touch + life.ran.touch)) ((s.touch + mid.touch) + life.ran.touch)
      (sym (append_assoc s.records mid.records life.ran.records)) (let e : s.touch + (mid.touch + life.ran.touch) ≡ (s.touch + mid.touch) + life.ran.touch = omega arith in e))

  pub before-same : (s : Stepped X) (r q : Machine X → Life X) → r s.machine ≡ q s.machine → goes_on s r ≡ goes_on s q
  before-same s r q e = ap (λ (life : Life X). with_ran life (before s.records s.touch life.ran)) e

  module _ (feeds : Feeds deadline f) where
    -- the deadline over one state
    step_moves : (m : Machine X) → ((step f m).machine.time ≡ m.time + 1) × Moved deadline m.time m.board.units.further (step f m).machine.board.units.further
    step_moves m =
        let x : X = m.board.units.further in
        let keeps : Keeps f m.time (λ y. Moved deadline m.time x y) = record {
          of_tick = λ l e y p. moved-next deadline m.time x y _ p (feeds.of_tick m.time l e y);
          of_start = λ y p. moved-next deadline m.time x y _ p (feeds.of_start m.time y);
          of_read = λ w s y p. moved-next deadline m.time x y _ p (feeds.of_read w s m.time y);
          of_write = λ w s v y p. moved-next deadline m.time x y _ p (feeds.of_write w s v m.time y);
        } in
        step_keeps f (λ y. Moved deadline m.time x y) m keeps (inl refl)

    span-step : (began : ℕ) (first : Option ℕ) (m : Machine X) → InSpan deadline began first m → InSpan deadline began first (step f m).machine
    span-step began first m span = by_moved (step_moves m).1 span.due
      where
        moves : ((step f m).machine.time ≡ m.time + 1) × Moved deadline m.time m.board.units.further (step f m).machine.board.units.further
        moves = step_moves m

        by_moved : Moved deadline m.time m.board.units.further (step f m).machine.board.units.further → ((deadline m.board.units.further ≡ first) ⊎ ((at : ℕ) × (deadline m.board.units.further ≡ Some at) × (began + patience ≤ at) × (at < m.time + patience))) → InSpan deadline began first (step f m).machine
        by_moved (inl e) (inl h) = record { from = omega (arith, span.from, moves.0); due = inl (e ∙ h) }
        by_moved (inl e) (inr d) = record { from = omega (arith, span.from, moves.0); due = inr (d.0, e ∙ d.1, d.2, omega (arith, d.3, moves.0)) }
        by_moved (inr e) due = record { from = omega (arith, span.from, moves.0); due = inr (m.time + patience, e, omega (arith, span.from), omega (arith, moves.0)) }

    -- the machine after some states of a span
    pub span-run : (began : ℕ) (first : Option ℕ) (k : ℕ) (m : Machine X) → InSpan deadline began first m → InSpan deadline began first (run_for f k m).machine
    unfolding run_for
    span-run began first zero m span = span
    span-run began first (suc k) m span = by_end m.ended refl (span-run began first k (step f m).machine (span-step began first m span))
      where
        by_end : (ended : Option End) → m.ended ≡ ended → InSpan deadline began first (run_for f k (step f m).machine).machine → InSpan deadline began first (run_for f (suc k) m).machine
        by_end (Some how) e rest = subst (λ (s : Stepped X). InSpan deadline began first s.machine) (sym (run_for-ended f (suc k) m how e)) span
        by_end None e rest = subst (λ (s : Stepped X). InSpan deadline began first s.machine) (sym (run_for-suc f k m e)) rest

    -- a machine that lives has gone through all its states
    pub run-time : (k : ℕ) (m : Machine X) → (run_for f k m).machine.ended ≡ None → (run_for f k m).machine.time ≡ m.time + k
    unfolding run_for
    run-time zero m lives = omega arith
    run-time (suc k) m lives = by_end m.ended refl (run-time k (step f m).machine)
      where
        by_end : (ended : Option End) → m.ended ≡ ended → ((run_for f k (step f m).machine).machine.ended ≡ None → (run_for f k (step f m).machine).machine.time ≡ (step f m).machine.time + k) → (run_for f (suc k) m).machine.time ≡ m.time + suc k
        by_end (Some how) e next = absurd (let c : None ≡ Some how = sym lives ∙ ap (λ (s : Stepped X). s.machine.ended) (run_for-ended f (suc k) m how e) ∙ e in cc)
        by_end None e next =
            let goes = run_for-suc f k m e in
            let rest = next (ap (λ (s : Stepped X). s.machine.ended) (sym goes) ∙ lives) in
            ap (λ (s : Stepped X). s.machine.time) goes ∙ rest ∙ (let c : (step f m).machine.time + k ≡ m.time + suc k = omega (arith, (step_moves m).0) in c)

    -- a life that goes through a span
    pub life-span : (began : ℕ) (first : Option ℕ) (stop : ℕ) (a b : ℕ) (m : Machine X) → IsSpanEnd deadline began first stop → InSpan deadline began first m → m.time + a ≤ stop →
        life_for f deadline (a + b) m ≡ goes_on (run_for f a m) (life_for f deadline b)
    unfolding run_for
    life-span began first stop zero b m ends span fits = ap (λ k. life_for f deadline k m) (zero-add b) ∙ sym (nothing-before m (life_for f deadline b))
    life-span began first stop (suc a) b m ends span fits =
        by_end m.ended refl (life-span began first stop a b (step f m).machine ends (span-step began first m span) (omega (arith, (step_moves m).0)))
      where
        by_end : (ended : Option End) → m.ended ≡ ended → life_for f deadline (a + b) (step f m).machine ≡ goes_on (run_for f a (step f m).machine) (life_for f deadline b) →
            life_for f deadline (suc a + b) m ≡ goes_on (run_for f (suc a) m) (life_for f deadline b)
        by_end (Some how) e rest =
            life-ended (suc a + b) m how e
            ∙ sym (ap (λ (s : Stepped X). goes_on s (life_for f deadline b)) (run_for-ended f (suc a) m how e) ∙ nothing-before m (life_for f deadline b) ∙ life-ended b m how e)
        by_end None e rest =
            let more : suc a + b ≡ suc (a + b) = omega arith in
            let none = not_due deadline began first stop m ends span (omega arith) in
            ap (λ k. life_for f deadline k m) more ∙ life-goes (a + b) m e none
            ∙ before-same (step f m) (life_for f deadline (a + b)) (λ n. goes_on (run_for f a n) (life_for f deadline b)) rest
            ∙ before-more (step f m) (run_for f a) (life_for f deadline b)
            ∙ sym (ap (λ (s : Stepped X). goes_on s (life_for f deadline b)) (run_for-suc f a m e))

-- ---- a life on its way: so many states have passed since it began

module _ {X : Type 0} (f : Further X) where
  run-add : (i j : ℕ) (m0 m : Machine X) → m ≡ (run_for f i m0).machine → run_for f (i + j) m0 ≡ and_then (run_for f i m0) (λ n. run_for f j m)
  run-add i j m0 m is = run_for-add f i j m0 ∙ ap (λ n. and_then (run_for f i m0) (λ k. run_for f j n)) (sym is)

  -- the machine, the text and the calls of units
  pub record Along (m0 : Machine X) (o0 : Out) (s0 : ℕ) (i : ℕ) (m : Machine X) (o : Out) (s : ℕ) : Type 0 where
    pub machine : m ≡ (run_for f i m0).machine
    pub lines : Puts o0 (text_of (run_for f i m0).records) o
    pub spent : s ≤ s0 + 4 * (run_for f i m0).touch

  pub along-first : (m : Machine X) (o : Out) (s : ℕ) → Along m o s 0 m o s
  unfolding run_for
  along-first m o s = record { machine = refl; lines = subst (λ text. Puts o text o) (sym text_of-nothing) (Puts-nothing o); spent = omega arith }

  -- the text of some states more
  pub along-lines : (m0 : Machine X) (o0 : Out) (s0 i j : ℕ) (m : Machine X) (o : Out) (s : ℕ) (p : Out) → Along m0 o0 s0 i m o s → Puts o (text_of (run_for f j m).records) p → Puts o0 (text_of (run_for f (i + j) m0).records) p
  along-lines m0 o0 s0 i j m o s p along lines =
      subst (λ text. Puts o0 text p)
      (sym (text_of-append (run_for f i m0).records (run_for f j m).records) ∙ ap (λ (r : Stepped X). text_of r.records) (sym (run-add i j m0 m along.machine)))
      (Puts-append o0 (text_of (run_for f i m0).records) o (text_of (run_for f j m).records) p along.lines lines)

  -- the calls of some states more, of which not all may have passed
  pub along-spent : (m0 : Machine X) (o0 : Out) (s0 i j k : ℕ) (m : Machine X) (o : Out) (s t : ℕ) → Along m0 o0 s0 i m o s → k ≤ j → t ≤ s + 4 * (run_for f k m).touch → t ≤ s0 + 4 * (run_for f (i + j) m0).touch
  along-spent m0 o0 s0 i j k m o s t along few spent =
      let sum : j ≡ k + (j - k) = omega arith in
      let some = ap (λ n. (run_for f n m).touch) sum ∙ ap (λ (r : Stepped X). r.touch) (run_for-add f k (j - k) m) in
      let all = ap (λ (r : Stepped X). r.touch) (run-add i j m0 m along.machine) in
      omega (arith, some, all, along.spent, spent)

  pub along-next : (m0 : Machine X) (o0 : Out) (s0 i j k : ℕ) (m : Machine X) (o : Out) (s : ℕ) (n : Machine X) (p : Out) (t : ℕ) → Along m0 o0 s0 i m o s → n ≡ (run_for f j m).machine →
      Puts o (text_of (run_for f j m).records) p → k ≤ j → t ≤ s + 4 * (run_for f k m).touch → Along m0 o0 s0 (i + j) n p t
  along-next m0 o0 s0 i j k m o s n p t along is lines few spent = record {
    machine = is ∙ ap (λ (r : Stepped X). r.machine) (sym (run-add i j m0 m along.machine));
    lines = along-lines m0 o0 s0 i j m o s p along lines;
    spent = along-spent m0 o0 s0 i j k m o s t along few spent;
  }

module _ {X : Type 0} (f : Further X) (deadline : X → Option ℕ) (until : ℕ) (m0 : Machine X) where
  -- what is left of a life after so many of its states
  abbrev pub IsLeft : ℕ → ℕ → Type 0
  IsLeft i now = life_for f deadline until m0 ≡ goes_on (run_for f i m0) (life_for f deadline (until - now))

  pub left-first : m0.time ≡ 0 → IsLeft 0 m0.time
  unfolding run_for
  left-first first =
      let all : until ≡ until - m0.time = omega arith in
      ap (λ n. life_for f deadline n m0) all ∙ sym (nothing-before f deadline m0 (life_for f deadline (until - m0.time)))

  pub left-at : (i now at : ℕ) → now ≡ at → IsLeft i now → IsLeft i at
  left-at i now at e left = subst (λ k. IsLeft i k) e left

  pub left-next : (feeds : Feeds deadline f) (i j stop : ℕ) (m : Machine X) (began : ℕ) (first : Option ℕ) → IsLeft i m.time → m ≡ (run_for f i m0).machine → IsSpanEnd deadline began first stop → InSpan deadline began first m →
      m.time + j ≡ stop → stop ≤ until → IsLeft (i + j) stop
  left-next feeds i j stop m began first left is ends span sum fits =
      let rest : until - m.time ≡ j + (until - stop) = omega arith in
      let goes : life_for f deadline (until - m.time) (run_for f i m0).machine ≡ goes_on (run_for f j (run_for f i m0).machine) (life_for f deadline (until - stop)) =
      subst (λ n. life_for f deadline (until - m.time) n ≡ goes_on (run_for f j n) (life_for f deadline (until - stop))) is
      (ap (λ n. life_for f deadline n m) rest ∙ life-span f deadline feeds began first stop j (until - stop) m ends span (omega arith)) in
      left
      ∙ before-same f deadline (run_for f i m0) (life_for f deadline (until - m.time)) (λ n. goes_on (run_for f j n) (life_for f deadline (until - stop))) goes
      ∙ before-more f deadline (run_for f i m0) (run_for f j) (life_for f deadline (until - stop))
      ∙ sym (ap (λ (s : Stepped X). goes_on s (life_for f deadline (until - stop))) (run_for-add f i j m0))

  -- ---- its end

  life-whole : (i now : ℕ) (n : Machine X) (last : Life X) → IsLeft i now → n ≡ (run_for f i m0).machine → life_for f deadline (until - now) n ≡ last → life_for f deadline until m0 ≡ goes_on (run_for f i m0) (λ m. last)
  life-whole i now n last left is e = left ∙ before-same f deadline (run_for f i m0) (life_for f deadline (until - now)) (λ m. last) (ap (life_for f deadline (until - now)) (sym is) ∙ e)

  pub record Ends (i : ℕ) (n : Machine X) (reported : End) (bites : Bool) : Type 0 where
    pub how : reported ≡ (life_for f deadline until m0).how
    pub by_watchdog : bites ≡ (life_for f deadline until m0).by_watchdog
    pub machine : n ≡ (life_for f deadline until m0).ran.machine
    pub records : (run_for f i m0).records ≡ (life_for f deadline until m0).ran.records
    pub touch : (run_for f i m0).touch ≡ (life_for f deadline until m0).ran.touch

  ends-so : (i now : ℕ) (n : Machine X) (last : Life X) → IsLeft i now → n ≡ (run_for f i m0).machine → life_for f deadline (until - now) n ≡ last → last.ran ≡ still n → Ends i n last.how last.by_watchdog
  ends-so i now n last left is e none =
      let whole = life-whole i now n last left is e in
      record {
        how = ap (λ (life : Life X). life.how) (sym whole);
        by_watchdog = ap (λ (life : Life X). life.by_watchdog) (sym whole);
        machine = ap (λ (s : Stepped X). s.machine) (sym none) ∙ ap (λ (life : Life X). life.ran.machine) (sym whole);
        records = sym (append-nil (run_for f i m0).records) ∙ ap (λ (s : Stepped X). (run_for f i m0).records ++ s.records) (sym none) ∙ ap (λ (life : Life X). life.ran.records) (sym whole);
        touch =
            (let c : (run_for f i m0).touch ≡ (run_for f i m0).touch + 0 = omega arith in c)
            ∙ ap (λ (s : Stepped X). (run_for f i m0).touch + s.touch) (sym none) ∙ ap (λ (life : Life X). life.ran.touch) (sym whole);
      }

  -- the machine has ended, or no state is left
  pub ends-over : (i now : ℕ) (n : Machine X) → IsLeft i now → n ≡ (run_for f i m0).machine → ((how : End) × (n.ended ≡ Some how)) ⊎ (until ≤ now) → Ends i n (end_of n) false
  ends-over i now n left is (inl over_now) = ends-so i now n (over n) left is (life-ended f deadline (until - now) n over_now.0 over_now.1) refl
  ends-over i now n left is (inr spent) = ends-so i now n (over n) left is (life-spent f deadline (until - now) n (omega arith)) refl

  -- its deadline has come
  pub ends-bitten : (i now : ℕ) (n : Machine X) → IsLeft i now → n ≡ (run_for f i m0).machine → now < until → n.ended ≡ None → is_at (deadline n.board.units.further) n.time ≡ true → Ends i n end.Reset true
  ends-bitten i now n left is more lives due = ends-so i now n (bitten n) left is (life-bitten f deadline (until - now) n (omega arith) lives due) refl

  pub ends-lines : (i : ℕ) (n : Machine X) (how : End) (by_watchdog : Bool) (o0 p : Out) → Ends i n how by_watchdog → Puts o0 (text_of (run_for f i m0).records) p → Puts o0 (text_of (life_for f deadline until m0).ran.records) p
  ends-lines i n how by_watchdog o0 p ends lines = subst (λ xs. Puts o0 (text_of xs) p) ends.records lines

  pub ends-spent : (i : ℕ) (n : Machine X) (how : End) (by_watchdog : Bool) (s0 t : ℕ) → Ends i n how by_watchdog → t ≤ s0 + 4 * (run_for f i m0).touch → t ≤ s0 + 4 * (life_for f deadline until m0).ran.touch
  ends-spent i n how by_watchdog s0 t ends spent = omega (arith, spent, ends.touch)

  -- the sink has failed on the way
  pub cut-lines : (i now : ℕ) (o0 p : Out) → IsLeft i now → p.failed ≡ true → Puts o0 (text_of (run_for f i m0).records) p → Puts o0 (text_of (life_for f deadline until m0).ran.records) p
  cut-lines i now o0 p left failed lines =
      let rest : Life X = life_for f deadline (until - now) (run_for f i m0).machine in
      subst (λ text. Puts o0 text p)
      (sym (text_of-append (run_for f i m0).records rest.ran.records) ∙ ap (λ (life : Life X). text_of life.ran.records) (sym left))
      (Puts-longer o0 (text_of (run_for f i m0).records) (text_of rest.ran.records) p failed lines)

  pub cut-spent : (i now : ℕ) (s0 t : ℕ) → IsLeft i now → t ≤ s0 + 4 * (run_for f i m0).touch → t ≤ s0 + 4 * (life_for f deadline until m0).ran.touch
  cut-spent i now s0 t left spent =
      let all = ap (λ (life : Life X). life.ran.touch) left in
      omega (arith, all, spent)

  -- a machine that lived at first, and is reported to be reset or powered down, has run
  pub ran-over : (i : ℕ) (n : Machine X) → n ≡ (run_for f i m0).machine → m0.ended ≡ None → HasRun (end_of n) n.time
  ran-over i n is lives = by_end n.ended refl
    where
      has_run : (how : End) (time : ℕ) → 0 < time → HasRun how time
      has_run end.Spent time h = tt
      has_run end.Powerdown time h = h
      has_run end.Reset time h = h
      has_run (end.Undefined what access) time h = tt

      by_end : (o : Option End) → n.ended ≡ o → HasRun (end_of n) n.time
      by_end None e = rw e tt
      by_end (Some how) e =
          let time : (run_for f i m0).machine.time ≡ n.time = ap (λ (k : Machine X). k.time) (sym is) in
          let over_there : (run_for f i m0).machine.ended ≡ Some how = ap (λ (k : Machine X). k.ended) (sym is) ∙ e in
          rw e (has_run how n.time (omega (arith, time, run_for-has_run f i m0 how lives over_there)))

-- ---- one span of it

module _ {X : Type 0} (deadline : X → Option ℕ) where
  span-fits : (began : ℕ) (first : Option ℕ) (until : ℕ) → end_of_span began first until ≤ until
  span-fits began None until = omega arith
  span-fits began (Some at) until = omega arith

  span-forward : (began : ℕ) (first : Option ℕ) (until : ℕ) → IsAhead first began → began ≤ until → began ≤ end_of_span began first until
  span-forward began None until h le = omega arith
  span-forward began (Some at) until h le = omega (arith, h.0)

-- a life that has ended, or whose states are spent
pub over-either : (o : Option End) (stop until : ℕ) → (is_some o || (stop == until)) ≡ true → ((how : End) × (o ≡ Some how)) ⊎ (until ≤ stop)
over-either (Some how) stop until e = inl (how, refl)
over-either None stop until e = inr (let same : stop ≡ until = grind (arith, nat_tests) in omega arith)

pub over-neither : (o : Option End) (stop until : ℕ) → (is_some o || (stop == until)) ≡ false → (o ≡ None) × (stop ≢ until)
over-neither (Some how) stop until e = absurd cc
over-neither None stop until e = (refl, λ same. absurd (let yes : eqb stop until ≡ true = grind (arith, nat_tests) in let c : true ≡ false = sym yes ∙ e in cc))

module _ {X : Type 0} (f : Further X) (deadline : X → Option ℕ) (feeds : Feeds deadline f) (until : ℕ) (m0 : Machine X) where
  -- from a machine on its way up to the end of its span
  pub record Spanned (i : ℕ) (m : Machine X) (stop : ℕ) : Type 0 where
    pub ends : IsSpanEnd deadline m.time (deadline m.board.units.further) stop
    pub forward : m.time ≤ stop
    pub fits : stop ≤ until
    pub goes : stop ≢ until → m.time < stop
    pub left : IsLeft f deadline until m0 (i + (stop - m.time)) stop

  spanned-here : (i : ℕ) (m : Machine X) → IsLeft f deadline until m0 i m.time → m ≡ (run_for f i m0).machine → m.time ≤ until → IsAhead (deadline m.board.units.further) m.time →
      Spanned i m (end_of_span m.time (deadline m.board.units.further) until)
  spanned-here i m left is within ahead =
      let stop : ℕ = end_of_span m.time (deadline m.board.units.further) until in
      let ends = span_end deadline m.time (deadline m.board.units.further) until ahead in
      let forward = span-forward deadline m.time (deadline m.board.units.further) until ahead within in
      let fits = span-fits deadline m.time (deadline m.board.units.further) until in
      let sum : m.time + (stop - m.time) ≡ stop = omega (arith, forward) in
      record {
        ends = ends;
        forward = forward;
        fits = fits;
        goes = span_goes deadline m.time (deadline m.board.units.further) until ahead;
        left = left-next f deadline until m0 feeds i (stop - m.time) stop m m.time (deadline m.board.units.further) left is ends (span-first deadline m) sum fits;
      }

  pub spanned : (i : ℕ) (m : Machine X) (stop now : ℕ) (due : Option ℕ) → IsLeft f deadline until m0 i m.time → m ≡ (run_for f i m0).machine → m.time ≤ until → IsAhead (deadline m.board.units.further) m.time →
      stop ≡ end_of_span now due until → now ≡ m.time → due ≡ deadline m.board.units.further → Spanned i m stop
  spanned i m stop now due left is within ahead at_end at_now at_due =
      subst (λ k. Spanned i m k) (sym (at_end ∙ ap (λ k. end_of_span k due until) at_now ∙ ap (λ o. end_of_span m.time o until) at_due)) (spanned-here i m left is within ahead)

  -- the machine at the end of a span, where it lives there
  pub spanned-time : (i : ℕ) (m : Machine X) (stop : ℕ) (n : Machine X) → Spanned i m stop → n ≡ (run_for f (stop - m.time) m).machine → n.ended ≡ None → n.time ≡ stop
  spanned-time i m stop n span is lives =
      let there = run-time f deadline feeds (stop - m.time) m (ap (λ (k : Machine X). k.ended) (sym is) ∙ lives) in
      ap (λ (k : Machine X). k.time) is ∙ there ∙ (let e : m.time + (stop - m.time) ≡ stop = omega (arith, span.forward) in e)

  pub spanned-ahead : (i : ℕ) (m : Machine X) (stop : ℕ) (n : Machine X) → Spanned i m stop → IsAhead (deadline m.board.units.further) m.time → n ≡ (run_for f (stop - m.time) m).machine → n.time ≡ stop →
      is_at (deadline n.board.units.further) stop ≡ false → IsAhead (deadline n.board.units.further) n.time
  spanned-ahead i m stop n span ahead is now none =
      let there : InSpan deadline m.time (deadline m.board.units.further) n =
      subst (λ (k : Machine X). InSpan deadline m.time (deadline m.board.units.further) k) (sym is) (span-run f deadline feeds m.time (deadline m.board.units.further) (stop - m.time) m (span-first deadline m)) in
      ahead-next deadline m.time (deadline m.board.units.further) stop n ahead span.ends there now span.forward none

-- what is so in any case is so where a call is Err
pub on-err : {A E : Type 0} {P : Type 0} (r : Result A E) → P → OnErr r P
on-err (Ok a) p = tt
on-err (Err e) p = p
