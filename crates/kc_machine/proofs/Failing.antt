-- Where a sink has failed on the way of a run.
use Rattle.std.proofs.Common.{◌≡◌, ℕ, ◌+◌, ◌-◌, ◌<◌, ◌≤◌, min, true, false, ◌++◌, sym, ◌∙◌, ap, subst, append-nil, arith}
use Rattle.kc_span.specs.Span.{QuietFor}
use Rattle.kc_intc.specs.declared.requests.Choice.TheVariants.{Go}
use Rattle.kc_extra.specs.Further.{Further}
use Rattle.kc_trace.specs.Out.{Out, Prints}
use Rattle.kc_block_spec.specs.Touch.{block_rule}
use Rattle.kc_machine_spec.specs.Machine.{Machine, Stepped, asked}
use Rattle.kc_machine_spec.specs.Run.{still, and_then, run_to}
use Rattle.kc_machine_spec.specs.Passing.{activity_end, IsIdle}
use Rattle.kc_machine_spec.proofs.Runs.{run_to-append, run_to-still}
use Rattle.kc_machine_spec.proofs.Idle.{QuietEnd, quiet_end}
use Rattle.kc_machine_spec.proofs.Coming.{Came, Came-first, Came-next}
use Rattle.kc_machine.specs.Failing.{Passes, FailsIn}

module _ {X : Type 0} (f : Further X) where
  -- an activity that begins where the machine stands
  pub passes-now : (until : ℕ) (m n : Machine X) → m.time < n.time → n.time ≡ min until (activity_end m) → Passes f until m n
  passes-now until m n forward over =
      let here : run_to f m.time m ≡ still m = run_to-still f m.time m (omega arith) in
      record {
        began = m.time;
        from = omega arith;
        begins = forward;
        there = ap (λ (s : Stepped X). s.machine.time) here;
        silent = ap (λ (s : Stepped X). s.records) here;
        over = over ∙ sym (ap (λ (s : Stepped X). min until (activity_end s.machine)) here);
      }

  -- idle states, of which the last alone has lines
  pub passes-idle : (until end : ℕ) (m n : Machine X) → IsIdle m → asked m ≡ Go → m.time < end → end ≤ until → QuietFor (block_rule f) m.time (end - 1 - m.time) m.board.units → n.time ≡ end → Passes f until m n
  passes-idle until end m n idle none further within quiet time =
      let last : QuietEnd f (end - 1) m = quiet_end f (end - 1) m idle none (omega arith) quiet in
      let over : activity_end (run_to f (end - 1) m).machine ≡ end = last.over ∙ (let e : (end - 1) + 1 ≡ end = omega arith in e) in
      record {
        began = end - 1;
        from = omega arith;
        begins = omega arith;
        there = last.there;
        silent = last.silent;
        over = time ∙ (let e : end ≡ min until end = omega arith in e) ∙ ap (min until) (sym over);
      }

  -- a run in which the sink fails in what is passed last
  pub fails-in : (until : ℕ) (m0 : Machine X) (o0 : Out) (m : Machine X) (o : Out) (n : Machine X) (p : Out) → Came f m0 o0 m o → o.failed ≡ false → Passes f until m n → n ≡ (run_to f n.time m).machine → Prints o (run_to f n.time m).records p → p.failed ≡ true → FailsIn f until m0 o0 n p
  fails-in until m0 o0 m o n p came unbroken passed next lines failed =
      let began : ℕ = passed.began in
      let time : (run_to f m.time m0).machine.time ≡ m.time = ap (λ (k : Machine X). k.time) (sym came.machine) in
      let parts : run_to f began m0 ≡ and_then (run_to f m.time m0) (run_to f began) = run_to-append f m.time began m0 came.forward passed.from time in
      let rest : run_to f began (run_to f m.time m0).machine ≡ run_to f began m = ap (run_to f began) (sym came.machine) in
      let there : (run_to f began m0).machine ≡ (run_to f began m).machine = ap (λ (s : Stepped X). s.machine) (parts ∙ ap (λ s. and_then (run_to f m.time m0) (λ k. s)) rest) in
      let before : (run_to f began m0).records ≡ (run_to f m.time m0).records =
      ap (λ (s : Stepped X). s.records) parts
      ∙ ap (λ (s : Stepped X). (run_to f m.time m0).records ++ s.records) rest
      ∙ ap (λ xs. (run_to f m.time m0).records ++ xs) passed.silent
      ∙ append-nil (run_to f m.time m0).records in
      let on : run_to f n.time m ≡ and_then (run_to f began m) (run_to f n.time) = run_to-append f began n.time m passed.from (omega (arith, passed.begins)) passed.there in
      let own : (run_to f n.time m).records ≡ (run_to f n.time (run_to f began m).machine).records =
      ap (λ (s : Stepped X). s.records) on ∙ ap (λ xs. xs ++ (run_to f n.time (run_to f began m).machine).records) passed.silent in
      let all = Came-next f m0 o0 m o n p came (omega (arith, passed.from, passed.begins)) next lines in
      record {
        began = began;
        mid = o;
        from = omega (arith, came.forward, passed.from);
        begins = passed.begins;
        whole = subst (λ xs. Prints o0 xs o) (sym before) came.lines;
        unbroken = unbroken;
        part = subst (λ (k : Machine X). Prints o (run_to f n.time k).records p) (sym there) (subst (λ xs. Prints o xs p) own lines);
        failed = failed;
        stands = all.machine;
        over = passed.over ∙ sym (ap (λ k. min until (activity_end k)) there);
      }

  -- a machine in an activity in whose lines the sink fails
  pub fails-here : (until : ℕ) (m : Machine X) (o : Out) (n : Machine X) (p : Out) → o.failed ≡ false → m.time < n.time → n.time ≡ min until (activity_end m) → n ≡ (run_to f n.time m).machine → Prints o (run_to f n.time m).records p → p.failed ≡ true → FailsIn f until m o n p
  fails-here until m o n p unbroken forward over next lines failed = fails-in until m o m o n p (Came-first f m o) unbroken (passes-now until m n forward over) next lines failed
