-- A run that has come to a state, with its records put to a trace.
use Rattle.std.proofs.Common.{◌≡◌, ℕ, suc, ◌+◌, ◌*◌, ◌-◌, ◌<◌, ◌≤◌, true, List, [], ◌∷◌, ◌++◌, Some, max, ◌⊎◌, inl, inr, refl, sym, ◌∙◌, ap, subst, arith}
use Rattle.std.proofs.lemmas.Bool.{cases_lt}
use Rattle.kc_trace.specs.declared.record.Record.TheVariants.{Registers}
use Rattle.kc_trace.specs.Out.{Out, IsPut, Prints}
use Rattle.kc_trace.proofs.Printed.{Prints-none, Prints-one, Prints-append, Prints-longer}
use Rattle.kc_extra.specs.Further.{Further}
use Rattle.kc_machine_spec.specs.declared.doing.End.{End}
use Rattle.kc_machine_spec.specs.Machine.{Machine, Stepped}
use Rattle.kc_machine_spec.specs.Run.{still, and_then, run_for, run_to}
use Rattle.kc_machine_spec.specs.Text.{register_rows, shown_row}
use Rattle.kc_machine_spec.proofs.Runs.{run_to-append, run_to-still, run_to-over}

-- no row of registers
pub rows-nothing : (memory : List ℕ) (o : Out) → Prints o (register_rows 0 memory) o
unfolding register_rows
rows-nothing memory o = Prints-none [] o refl

-- one row of registers more
pub rows-more : (n : ℕ) (memory : List ℕ) (o p q : Out) → Prints o (register_rows n memory) p → IsPut p (Registers (32 * n) (shown_row n memory)) q → Prints o (register_rows (n + 1) memory) q
unfolding register_rows
rows-more n memory o p q h k =
    let next : n + 1 ≡ suc n = omega arith in
    subst (λ i. Prints o (register_rows i memory) q) (sym next)
    (Prints-append o (register_rows n memory) p (Registers (32 * n) (shown_row n memory) ∷ []) q h (Prints-one p (Registers (32 * n) (shown_row n memory)) q k))

module _ {X : Type 0} (f : Further X) where
  -- from one machine and trace to another
  pub record Came (m0 : Machine X) (o0 : Out) (m : Machine X) (o : Out) : Type 0 where
    pub forward : m0.time ≤ m.time
    pub machine : m ≡ (run_to f m.time m0).machine
    pub lines : Prints o0 (run_to f m.time m0).records o

  -- the beginning
  pub Came-first : (m : Machine X) (o : Out) → Came m o m o
  Came-first m o =
      let here : run_to f m.time m ≡ still m = run_to-still f m.time m (omega arith) in
      record {
        forward = omega arith;
        machine = sym (ap (λ (s : Stepped X). s.machine) here);
        lines = Prints-none _ o (sym (ap (λ (s : Stepped X). s.records) here));
      }

  -- some states more
  pub Came-next : (m0 : Machine X) (o0 : Out) (m : Machine X) (o : Out) (n : Machine X) (p : Out) → Came m0 o0 m o → m.time < n.time → n ≡ (run_to f n.time m).machine → Prints o (run_to f n.time m).records p → Came m0 o0 n p
  Came-next m0 o0 m o n p came further next lines =
      let until : ℕ = n.time in
      let time : (run_to f m.time m0).machine.time ≡ m.time = ap (λ (k : Machine X). k.time) (sym came.machine) in
      let parts : run_to f until m0 ≡ and_then (run_to f m.time m0) (run_to f until) = run_to-append f m.time until m0 came.forward (omega arith) time in
      let rest : run_to f until (run_to f m.time m0).machine ≡ run_to f until m = ap (run_to f until) (sym came.machine) in
      let all : (run_to f until m0).records ≡ (run_to f m.time m0).records ++ (run_to f until m).records =
      ap (λ (s : Stepped X). s.records) parts
      ∙ ap (λ (s : Stepped X). (run_to f m.time m0).records ++ s.records) rest in
      record {
        forward = omega (arith, came.forward, further);
        machine = next ∙ sym (ap (λ (s : Stepped X). s.machine) rest) ∙ sym (ap (λ (s : Stepped X). s.machine) parts);
        lines = subst (λ xs. Prints o0 xs p) (sym all) (Prints-append o0 _ o _ p came.lines lines);
      }

  -- the end of a run that has come far enough
  pub Came-far : (m0 : Machine X) (o0 : Out) (m : Machine X) (o : Out) (until : ℕ) → Came m0 o0 m o → until ≤ m.time → m.time ≤ max until m0.time → run_to f until m0 ≡ run_to f m.time m0
  Came-far m0 o0 m o until came far within =
      let n : until - m0.time ≡ m.time - m0.time = omega (arith, came.forward) in
      ap (λ k. run_for f k m0) n

  -- the end of a run that has ended
  pub Came-over : (m0 : Machine X) (o0 : Out) (m : Machine X) (o : Out) (until : ℕ) (how : End) → Came m0 o0 m o → m.time ≤ max until m0.time → m.ended ≡ Some how → run_to f until m0 ≡ run_to f m.time m0
  Came-over m0 o0 m o until how came within over = either (cases_lt m.time until)
    where
      either : (m.time < until) ⊎ (until ≤ m.time) → run_to f until m0 ≡ run_to f m.time m0
      either (inr far) = Came-far m0 o0 m o until came far within
      either (inl near) =
          let time : (run_to f m.time m0).machine.time ≡ m.time = ap (λ (k : Machine X). k.time) (sym came.machine) in
          run_to-over f m.time until m0 how came.forward (omega arith) time (ap (λ (k : Machine X). k.ended) (sym came.machine) ∙ over)

  -- a trace that has failed on the way
  pub Came-cut : (m0 : Machine X) (o0 : Out) (m : Machine X) (o : Out) (until : ℕ) → Came m0 o0 m o → m.time ≤ until → o.failed ≡ true → Prints o0 (run_to f until m0).records o
  Came-cut m0 o0 m o until came within failed =
      let time : (run_to f m.time m0).machine.time ≡ m.time = ap (λ (k : Machine X). k.time) (sym came.machine) in
      let parts : run_to f until m0 ≡ and_then (run_to f m.time m0) (run_to f until) = run_to-append f m.time until m0 came.forward within time in
      subst (λ xs. Prints o0 xs o) (sym (ap (λ (s : Stepped X). s.records) parts)) (Prints-longer o0 _ _ o failed came.lines)

  -- what is said of a run that has come to its end
  pub Came-lines : (m0 : Machine X) (o0 : Out) (m : Machine X) (o : Out) (until : ℕ) → Came m0 o0 m o → run_to f until m0 ≡ run_to f m.time m0 → Prints o0 (run_to f until m0).records o
  Came-lines m0 o0 m o until came same = subst (λ (s : Stepped X). Prints o0 s.records o) (sym same) came.lines

  pub Came-machine : (m0 : Machine X) (o0 : Out) (m : Machine X) (o : Out) (until : ℕ) → Came m0 o0 m o → run_to f until m0 ≡ run_to f m.time m0 → m ≡ (run_to f until m0).machine
  Came-machine m0 o0 m o until came same = came.machine ∙ sym (ap (λ (s : Stepped X). s.machine) same)
