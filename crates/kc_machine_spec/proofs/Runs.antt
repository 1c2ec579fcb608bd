-- Laws of runs: how they are put together, and how an activity is passed at once.
use Rattle.std.proofs.Common.{◌≡◌, ℕ, zero, suc, ◌+◌, ◌-◌, ◌<◌, ◌≤◌, ◌≢◌, Bool, true, false, eqb, List, [], ◌++◌, Option, Some, None, refl, sym, ◌∙◌, ap, subst, append_assoc, append-nil, zero-add, arith}
use Rattle.std.proofs.lemmas.Bool.Decides.{nat_tests}
use Rattle.std.proofs.lemmas.List.{map-append}
use Rattle.kc_exec_spec.specs.declared.cpu.Cpu.{Cpu}
use Rattle.kc_exec_spec.specs.declared.cpu.After.{After}
use Rattle.kc_machine_spec.specs.declared.doing.Activity.{Activity}
use Rattle.kc_machine_spec.specs.declared.doing.Activity.TheVariants.{Executes, MovesWord, Traps, Enters, SetsUp, Transfers, Idles, Breaks}
use Rattle.kc_isa.specs.declared.insn.Insn.{Insn}
use Rattle.kc_machine_spec.specs.declared.doing.End.{End}
use Rattle.kc_machine_spec.specs.declared.doing.UnderWay.{UnderWay}
use Rattle.kc_pts.specs.declared.cycle.Cycle.{Cycle}
use Rattle.kc_pts.specs.Cycles.{set_up, served}
use Rattle.kc_trace.specs.declared.record.Record.{Record}
use Rattle.kc_span.specs.Span.{after}
use Rattle.kc_extra.specs.Further.{Further}
use Rattle.kc_block_spec.specs.Units.{Units}
use Rattle.kc_block_spec.specs.Tick.{tick}
use Rattle.kc_block_spec.specs.Touch.{touched, touch, block_rule, edges_of, in_state}
use Rattle.kc_machine_spec.specs.Board.{pin_record, pins, edges_in}
use Rattle.kc_machine_spec.specs.Scene.{Scene, scene_meaning}
use Rattle.kc_exec_spec.specs.Effect.{Outcome, Done, Refused, run}
use Rattle.kc_exec_spec.specs.Effects.{effect_of}
use Rattle.kc_exec_spec.specs.Entering.{entry, vector_at, opcode_trap}
use Rattle.kc_exec_spec.specs.BlockMoves.{moved_word}
use Rattle.kc_machine_spec.specs.Passing.{at, left_at, stepped_of, after_ticks, passed, whole, activity_end}
use Rattle.kc_machine_spec.specs.Machine.{Machine, Stepped, step, stepped, current, finished, waiting, with_units, settled, entered, trapped, prepared, cycled, transferred, own_records, scene_of, before}
use Rattle.kc_machine_spec.specs.Run.{still, and_then, run_for, run_to}

pub same_stepped : {X : Type 0} (m n : Machine X) (xs ys : List Record) (v w : ℕ) → m ≡ n → xs ≡ ys → v ≡ w → stepped_of m xs v ≡ stepped_of n ys w
same_stepped m n xs ys v w e h g = ap (λ k. stepped_of k xs v) e ∙ ap (λ l. stepped_of n l v) h ∙ ap (stepped_of n ys) g

-- nothing comes after
nothing-after : {X : Type 0} (s : Stepped X) → before s.records s.touch (still s.machine) ≡ s
nothing-after s = same_stepped s.machine s.machine _ _ _ _ refl (append-nil s.records) (let e : s.touch + 0 ≡ s.touch = omega arith in e)

nothing-before : {X : Type 0} (s : Stepped X) → before [] 0 s ≡ s
nothing-before s = same_stepped s.machine s.machine s.records s.records _ _ refl refl (let e : 0 + s.touch ≡ s.touch = omega arith in e)

-- what comes before, in two parts
before-append : {X : Type 0} (xs : List Record) (v : ℕ) (ys : List Record) (w : ℕ) (s : Stepped X) → before xs v (before ys w s) ≡ before (xs ++ ys) (v + w) s
before-append xs v ys w s = same_stepped s.machine s.machine _ _ _ _ refl (sym (append_assoc xs ys s.records)) (let e : v + (w + s.touch) ≡ (v + w) + s.touch = omega arith in e)

pub same_at : {X : Type 0} (m : Machine X) (n k : ℕ) (x y : Units X) (u v : Option UnderWay) → n ≡ k → x ≡ y → u ≡ v → at m n x u ≡ at m k y v
same_at m n k x y u v e h g = ap (λ i. at m i x u) e ∙ ap (λ z. at m k z u) h ∙ ap (λ w. at m k y w) g

-- an activity in its last state does the same, whatever is said of its states
settled-at : {X : Type 0} (m : Machine X) (now : ℕ) (x : Units X) (u v : Option UnderWay) (insn : Insn) (records : List Record) (o : Outcome (After × Cpu) (Scene X)) → settled (at m now x u) insn records o ≡ settled (at m now x v) insn records o
settled-at m now x u v insn records (Done done scene) = refl
settled-at m now x u v insn records (Refused kind scene) = refl

entered-at : {X : Type 0} (m : Machine X) (now : ℕ) (x : Units X) (u v : Option UnderWay) (number : ℕ) (o : Outcome ℕ (Scene X)) → entered (at m now x u) number o ≡ entered (at m now x v) number o
entered-at m now x u v number (Done pc scene) = refl
entered-at m now x u v number (Refused kind scene) = refl

trapped-at : {X : Type 0} (m : Machine X) (now : ℕ) (x : Units X) (u v : Option UnderWay) (o : Outcome ℕ (Scene X)) → trapped (at m now x u) o ≡ trapped (at m now x v) o
trapped-at m now x u v (Done pc scene) = refl
trapped-at m now x u v (Refused kind scene) = refl

prepared-at : {X : Type 0} (m : Machine X) (now : ℕ) (x : Units X) (u v : Option UnderWay) (number : ℕ) (o : Outcome Cycle (Scene X)) → prepared (at m now x u) number o ≡ prepared (at m now x v) number o
prepared-at m now x u v number (Done cycle scene) = refl
prepared-at m now x u v number (Refused kind scene) = refl

cycled-at : {X : Type 0} (m : Machine X) (now : ℕ) (x : Units X) (u v : Option UnderWay) (number : ℕ) (cycle : Cycle) (count : Option ℕ) (scene : Scene X) → cycled (at m now x u) number cycle count scene ≡ cycled (at m now x v) number cycle count scene
cycled-at m now x u v number cycle None scene = refl
cycled-at m now x u v number cycle (Some count) scene = refl

transferred-at : {X : Type 0} (m : Machine X) (now : ℕ) (x : Units X) (u v : Option UnderWay) (number : ℕ) (o : Outcome (Cycle × Option ℕ) (Scene X)) → transferred (at m now x u) number o ≡ transferred (at m now x v) number o
transferred-at m now x u v number (Done done scene) = cycled-at m now x u v number done.0 done.1 scene
transferred-at m now x u v number (Refused kind scene) = refl

-- each state takes one state time
settled-time : {X : Type 0} (m : Machine X) (insn : Insn) (records : List Record) (o : Outcome (After × Cpu) (Scene X)) → (settled m insn records o).machine.time ≡ m.time + 1
settled-time m insn records (Done done scene) = refl
settled-time m insn records (Refused kind scene) = refl

entered-time : {X : Type 0} (m : Machine X) (number : ℕ) (o : Outcome ℕ (Scene X)) → (entered m number o).machine.time ≡ m.time + 1
entered-time m number (Done pc scene) = refl
entered-time m number (Refused kind scene) = refl

trapped-time : {X : Type 0} (m : Machine X) (o : Outcome ℕ (Scene X)) → (trapped m o).machine.time ≡ m.time + 1
trapped-time m (Done pc scene) = refl
trapped-time m (Refused kind scene) = refl

prepared-time : {X : Type 0} (m : Machine X) (number : ℕ) (o : Outcome Cycle (Scene X)) → (prepared m number o).machine.time ≡ m.time + 1
prepared-time m number (Done cycle scene) = refl
prepared-time m number (Refused kind scene) = refl

cycled-time : {X : Type 0} (m : Machine X) (number : ℕ) (cycle : Cycle) (count : Option ℕ) (scene : Scene X) → (cycled m number cycle count scene).machine.time ≡ m.time + 1
cycled-time m number cycle None scene = refl
cycled-time m number cycle (Some count) scene = refl

transferred-time : {X : Type 0} (m : Machine X) (number : ℕ) (o : Outcome (Cycle × Option ℕ) (Scene X)) → (transferred m number o).machine.time ≡ m.time + 1
transferred-time m number (Done done scene) = cycled-time m number done.0 done.1 scene
transferred-time m number (Refused kind scene) = refl

module _ {X : Type 0} (f : Further X) where
  -- the edges of one state more
  pub edges_in-suc : (from n : ℕ) (u : Units X) → edges_in f from n u ++ pins (from + n) (tick f (from + n) (after (block_rule f) from n u)).edges ≡ edges_in f from (suc n) u
  unfolding edges_of
  edges_in-suc from n u = sym (map-append pin_record (edges_of f from n u) (in_state (from + n) (tick f (from + n) (after (block_rule f) from n u)).edges))

  -- a machine that has ended does nothing more
  pub run_for-ended : (k : ℕ) (m : Machine X) (how : End) → m.ended ≡ Some how → run_for f k m ≡ still m
  unfolding run_for
  run_for-ended zero m how h = refl
  run_for-ended (suc k) m how h = rw h refl

  -- the first step of a machine that lives
  pub run_for-suc : (k : ℕ) (m : Machine X) → m.ended ≡ None → run_for f (suc k) m ≡ and_then (step f m) (run_for f k)
  unfolding run_for
  run_for-suc k m h = rw h refl

  -- one step of a sum, where the rest is known
  add_step : (a b : ℕ) (m : Machine X) (ended : Option End) → m.ended ≡ ended → ((n : Machine X) → run_for f (a + b) n ≡ and_then (run_for f a n) (run_for f b)) → run_for f (suc a + b) m ≡ and_then (run_for f (suc a) m) (run_for f b)
  add_step a b m (Some how) h rest =
      run_for-ended (suc a + b) m how h ∙ sym (rw (run_for-ended (suc a) m how h) (ap (before [] 0) (run_for-ended b m how h)))
  add_step a b m None h rest =
      let more : suc a + b ≡ suc (a + b) = omega arith in
      ap (λ k. run_for f k m) more ∙ run_for-suc (a + b) m h
      ∙ ap (before (step f m).records (step f m).touch) (rest (step f m).machine)
      ∙ before-append (step f m).records (step f m).touch (run_for f a (step f m).machine).records (run_for f a (step f m).machine).touch (run_for f b (run_for f a (step f m).machine).machine)
      ∙ sym (ap (λ s. and_then s (run_for f b)) (run_for-suc a m h))

  -- some states, and then some more
  pub run_for-add : (a b : ℕ) (m : Machine X) → run_for f (a + b) m ≡ and_then (run_for f a m) (run_for f b)
  unfolding run_for
  run_for-add zero b m = ap (λ k. run_for f k m) (zero-add b) ∙ sym (nothing-before (run_for f b m))
  run_for-add (suc a) b m = add_step a b m m.ended refl (λ n. run_for-add a b n)

  -- no state
  pub run-none : (m : Machine X) → run_for f 0 m ≡ still m
  unfolding run_for
  run-none m = refl

  -- the machine of a run in two parts
  pub machine-add : (a b : ℕ) (m : Machine X) → (run_for f (a + b) m).machine ≡ (run_for f b (run_for f a m).machine).machine
  machine-add a b m = ap (λ (s : Stepped X). s.machine) (run_for-add a b m)

  pub machine-suc : (b : ℕ) (m : Machine X) → (run_for f (suc b) m).machine ≡ (run_for f b (run_for f 1 m).machine).machine
  machine-suc b m =
      let e : suc b ≡ 1 + b = omega arith in
      ap (λ n. (run_for f n m).machine) e ∙ machine-add 1 b m

  -- one state of an activity that isn't the last
  stepped-waiting : (m : Machine X) (a : UnderWay) → a.left ≢ 1 → stepped f m a ≡ before (pins m.time (tick f m.time m.board.units).edges) (touched f m.time m.board.units) (waiting a (with_units m (tick f m.time m.board.units).units))
  unfolding stepped
  stepped-waiting m a more = let e : eqb a.left 1 ≡ false = grind (arith, nat_tests) in rw e refl

  -- the last state of an activity
  pub stepped-finished : (m : Machine X) (a : UnderWay) → a.left ≡ 1 → stepped f m a ≡ before (pins m.time (tick f m.time m.board.units).edges) (touched f m.time m.board.units) (finished f a.doing (with_units m (tick f m.time m.board.units).units))
  unfolding stepped
  stepped-finished m a one = let e : eqb a.left 1 ≡ true = grind (arith, nat_tests) in rw e refl

  -- one step is the step
  pub run_for-one : (m : Machine X) → m.ended ≡ None → run_for f 1 m ≡ step f m
  unfolding run_for
  run_for-one m lives = run_for-suc 0 m lives ∙ nothing-after (step f m)

  -- one state more of an activity, not its last
  waits-next : (k : ℕ) (m : Machine X) (a : UnderWay) → m.ended ≡ None → suc k < a.left → and_then (passed f m a k) (run_for f 1) ≡ passed f m a (suc k)
  unfolding after edges_of touch
  waits-next k m a lives more =
      let now : (m.time + k) + 1 ≡ m.time + suc k = omega arith in
      let left : (a.left - k) - 1 ≡ a.left - suc k = omega arith in
      let here : Machine X = after_ticks f m k (left_at a (a.left - k)) in
      let edges : List Record = edges_in f m.time k m.board.units in
      let own : List Record = pins here.time (tick f here.time here.board.units).edges in
      let cost : ℕ = touch f m.time k m.board.units in
      let now_touched : ℕ = touched f here.time here.board.units in
      ap (before edges cost) (run_for-one here lives ∙ stepped-waiting here (record a { left = a.left - k }) (omega arith))
      ∙ same_stepped _ _ (edges ++ (own ++ [])) (edges_in f m.time (suc k) m.board.units) (cost + (now_touched + 0)) (cost + now_touched)
      (same_at m _ _ _ _ (left_at a ((a.left - k) - 1)) (left_at a (a.left - suc k)) now refl (ap (left_at a) left))
      (ap (λ xs. edges ++ xs) (append-nil own) ∙ edges_in-suc m.time k m.board.units) (let e : cost + (now_touched + 0) ≡ cost + now_touched = omega arith in e)

  -- some states of an activity, its last not among them
  pub waits : (k : ℕ) (m : Machine X) (a : UnderWay) → m.ended ≡ None → m.under_way ≡ Some a → k < a.left → run_for f k m ≡ passed f m a k
  unfolding run_for after edges_of touch
  waits zero m a lives same more =
      let now : m.time ≡ m.time + 0 = omega arith in
      let left : a.left ≡ a.left - 0 = omega arith in
      ap still (same_at m m.time (m.time + 0) m.board.units m.board.units m.under_way (left_at a (a.left - 0)) now refl (same ∙ ap (left_at a) left))
  waits (suc k) m a lives same more =
      let e : suc k ≡ k + 1 = omega arith in
      ap (λ i. run_for f i m) e ∙ run_for-add k 1 m ∙ ap (λ s. and_then s (run_for f 1)) (waits k m a lives same (omega arith)) ∙ waits-next k m a lives more

  finished-at : (doing : Activity) (m : Machine X) (now : ℕ) (x : Units X) (u v : Option UnderWay) → finished f doing (at m now x u) ≡ finished f doing (at m now x v)
  unfolding finished
  finished-at (Executes insn) m now x u v = settled-at m now x u v insn (own_records now m.cpu.pc insn) (run (scene_meaning f) (effect_of insn m.cpu) (scene_of (at m now x u)))
  finished-at (MovesWord insn words) m now x u v = settled-at m now x u v insn [] (run (scene_meaning f) (moved_word insn words m.cpu) (scene_of (at m now x u)))
  finished-at Traps m now x u v = trapped-at m now x u v (run (scene_meaning f) (opcode_trap m.cpu.pc) (scene_of (at m now x u)))
  finished-at (Enters number) m now x u v = entered-at m now x u v number (run (scene_meaning f) (entry (vector_at number) m.cpu.pc) (scene_of (at m now x u)))
  finished-at (SetsUp number) m now x u v = prepared-at m now x u v number (run (scene_meaning f) (set_up number) (scene_of (at m now x u)))
  finished-at (Transfers number cycle) m now x u v = transferred-at m now x u v number (run (scene_meaning f) (served cycle) (scene_of (at m now x u)))
  finished-at Idles m now x u v = refl
  finished-at (Breaks kind) m now x u v = refl

  -- one state of an activity is the same, whatever was said of it before
  stepped-at : (m : Machine X) (a : UnderWay) (u v : Option UnderWay) (last : Bool) → eqb a.left 1 ≡ last → stepped f (at m m.time m.board.units u) a ≡ stepped f (at m m.time m.board.units v) a
  unfolding stepped
  stepped-at m a u v true e = rw e (ap (before (pins m.time (tick f m.time m.board.units).edges) (touched f m.time m.board.units)) (finished-at a.doing m m.time (tick f m.time m.board.units).units u v))
  stepped-at m a u v false e = rw e refl

  -- the activity may as well be under way already
  run_for-current : (k : ℕ) (m : Machine X) (a : UnderWay) → m.ended ≡ None → current m ≡ a → run_for f (suc k) m ≡ run_for f (suc k) (at m m.time m.board.units (Some a))
  run_for-current k m a lives same =
      run_for-suc k m lives
      ∙ ap (λ s. and_then s (run_for f k)) (ap (stepped f m) same ∙ stepped-at m a m.under_way (Some a) (eqb a.left 1) refl)
      ∙ sym (run_for-suc k (at m m.time m.board.units (Some a)) lives)

  -- some states of the current activity, its last not among them
  pub run_for-cut : (n : ℕ) (m : Machine X) (a : UnderWay) → m.ended ≡ None → current m ≡ a → 0 < n → n < a.left → run_for f n m ≡ passed f m a n
  run_for-cut n m a lives same some more =
      let e : n ≡ suc (n - 1) = omega arith in
      ap (λ k. run_for f k m) e ∙ run_for-current (n - 1) m a lives same ∙ ap (λ k. run_for f k (at m m.time m.board.units (Some a))) (sym e)
      ∙ waits n (at m m.time m.board.units (Some a)) a lives refl more

  -- the last state of an activity, after the others
  whole-last : (k : ℕ) (m : Machine X) (a : UnderWay) → m.ended ≡ None → a.left ≡ suc k → and_then (passed f m a k) (run_for f 1) ≡ before (edges_in f m.time (suc k) m.board.units) (touch f m.time (suc k) m.board.units) (finished f a.doing (at m (m.time + k) (after (block_rule f) m.time (suc k) m.board.units) m.under_way))
  unfolding after edges_of touch
  whole-last k m a lives e =
      let here : Machine X = after_ticks f m k (left_at a (a.left - k)) in
      let last : UnderWay = record a { left = a.left - k } in
      let one : last.left ≡ 1 = omega arith in
      let edges : List Record = edges_in f m.time k m.board.units in
      let own : List Record = pins here.time (tick f here.time here.board.units).edges in
      let cost : ℕ = touch f m.time k m.board.units in
      let now_touched : ℕ = touched f here.time here.board.units in
      ap (before edges cost) (run_for-one here lives ∙ stepped-finished here last one)
      ∙ before-append edges cost own now_touched _
      ∙ ap (before (edges ++ own) (cost + now_touched)) (finished-at a.doing m (m.time + k) (tick f here.time here.board.units).units (Some last) m.under_way)
      ∙ ap (λ xs. before xs (cost + now_touched) (finished f a.doing (at m (m.time + k) (after (block_rule f) m.time (suc k) m.board.units) m.under_way))) (edges_in-suc m.time k m.board.units)

  pub run_for-whole : (m : Machine X) (a : UnderWay) → m.ended ≡ None → current m ≡ a → 0 < a.left → run_for f a.left m ≡ whole f m a
  run_for-whole m a lives same some =
      let k : ℕ = a.left - 1 in
      let e : a.left ≡ suc k = omega arith in
      let n : suc k ≡ k + 1 = omega arith in
      let began : Machine X = at m m.time m.board.units (Some a) in
      let doing : ℕ → Stepped X = λ i. before (edges_in f m.time i m.board.units) (touch f m.time i m.board.units) (finished f a.doing (at m (m.time + k) (after (block_rule f) m.time i m.board.units) m.under_way)) in
      ap (λ i. run_for f i m) e ∙ run_for-current k m a lives same ∙ ap (λ i. run_for f i began) n
      ∙ run_for-add k 1 began
      ∙ ap (λ s. and_then s (run_for f 1)) (waits k began a lives refl (omega arith))
      ∙ whole-last k began a lives e
      ∙ ap (before (edges_in f m.time (suc k) m.board.units) (touch f m.time (suc k) m.board.units)) (finished-at a.doing m (m.time + k) (after (block_rule f) m.time (suc k) m.board.units) (Some a) m.under_way)
      ∙ ap doing (sym e)

  -- a run that ends before the current activity does
  pub run_to-cut : (until : ℕ) (m : Machine X) (a : UnderWay) → m.ended ≡ None → a ≡ current m → m.time < until → until - m.time < a.left → run_to f until m ≡ record {
    machine = at m until (after (block_rule f) m.time (until - m.time) m.board.units) (left_at a (a.left - (until - m.time)));
    records = edges_in f m.time (until - m.time) m.board.units;
    touch = touch f m.time (until - m.time) m.board.units;
  }
  run_to-cut until m a lives same ahead more =
      let n : ℕ = until - m.time in
      let sum : m.time + n ≡ until = omega arith in
      run_for-cut n m a lives (sym same) (omega arith) more
      ∙ same_stepped _ _ _ _ _ _ (same_at m (m.time + n) until (after (block_rule f) m.time n m.board.units) (after (block_rule f) m.time n m.board.units) (left_at a (a.left - n)) (left_at a (a.left - n)) sum refl refl) refl refl

  -- a run that ends with the current activity
  pub run_to-whole : (until : ℕ) (m : Machine X) (a : UnderWay) → m.ended ≡ None → a ≡ current m → 0 < a.left → until ≡ m.time + a.left → run_to f until m ≡ whole f m a
  run_to-whole until m a lives same some sum =
      let n : until - m.time ≡ a.left = omega arith in
      ap (λ k. run_for f k m) n ∙ run_for-whole m a lives (sym same) some

  -- a run to the end of the current activity
  pub run_to-activity : (m : Machine X) → m.ended ≡ None → 0 < (current m).left → run_to f (activity_end m) m ≡ whole f m (current m)
  run_to-activity m lives some = run_to-whole (activity_end m) m (current m) lives refl some refl

  -- a run that goes on from a state on its way
  pub run_to-append : (mid until : ℕ) (m : Machine X) → m.time ≤ mid → mid ≤ until → (run_to f mid m).machine.time ≡ mid → run_to f until m ≡ and_then (run_to f mid m) (run_to f until)
  run_to-append mid until m below above at_mid =
      let sum : until - m.time ≡ (mid - m.time) + (until - mid) = omega arith in
      ap (λ k. run_for f k m) sum ∙ run_for-add (mid - m.time) (until - mid) m
      ∙ ap (λ k. and_then (run_to f mid m) (run_for f k)) (ap (λ t. until - t) (sym at_mid))

  -- the touch of a run that goes on
  pub run_to-touch : (mid until : ℕ) (m n : Machine X) → m.time ≤ mid → mid ≤ until → n.time ≡ mid → n ≡ (run_to f mid m).machine → (run_to f until m).touch ≡ (run_to f mid m).touch + (run_to f until n).touch
  run_to-touch mid until m n below above now same =
      ap (λ (s : Stepped X). s.touch) (run_to-append mid until m below above (ap (λ (k : Machine X). k.time) (sym same) ∙ now))
      ∙ ap (λ k. (run_to f mid m).touch + (run_to f until k).touch) (sym same)

  -- a run that has ended, or has come to its state
  pub run_to-over : (mid until : ℕ) (m : Machine X) (how : End) → m.time ≤ mid → mid ≤ until → (run_to f mid m).machine.time ≡ mid → (run_to f mid m).machine.ended ≡ Some how → run_to f until m ≡ run_to f mid m
  run_to-over mid until m how below above at_mid over =
      let ran : Stepped X = run_to f mid m in
      run_to-append mid until m below above at_mid
      ∙ ap (before ran.records ran.touch) (run_for-ended (until - ran.machine.time) ran.machine how over)
      ∙ nothing-after ran

  -- a run to the state where it begins
  pub run_to-still : (until : ℕ) (m : Machine X) → until ≤ m.time → run_to f until m ≡ still m
  unfolding run_for
  run_to-still until m past = let none : until - m.time ≡ 0 = omega arith in ap (λ k. run_for f k m) none

  finished-time : (doing : Activity) (m : Machine X) → (finished f doing m).machine.time ≡ m.time + 1
  unfolding finished
  finished-time (Executes insn) m = settled-time m insn (own_records m.time m.cpu.pc insn) (run (scene_meaning f) (effect_of insn m.cpu) (scene_of m))
  finished-time (MovesWord insn words) m = settled-time m insn [] (run (scene_meaning f) (moved_word insn words m.cpu) (scene_of m))
  finished-time Traps m = trapped-time m (run (scene_meaning f) (opcode_trap m.cpu.pc) (scene_of m))
  finished-time (Enters number) m = entered-time m number (run (scene_meaning f) (entry (vector_at number) m.cpu.pc) (scene_of m))
  finished-time (SetsUp number) m = prepared-time m number (run (scene_meaning f) (set_up number) (scene_of m))
  finished-time (Transfers number cycle) m = transferred-time m number (run (scene_meaning f) (served cycle) (scene_of m))
  finished-time Idles m = refl
  finished-time (Breaks kind) m = refl

  pub stepped-time : (m : Machine X) (a : UnderWay) (last : Bool) → eqb a.left 1 ≡ last → (stepped f m a).machine.time ≡ m.time + 1
  unfolding stepped
  stepped-time m a true e = rw e (finished-time a.doing (with_units m (tick f m.time m.board.units).units))
  stepped-time m a false e = rw e refl

  -- a run does not go back
  run_for-forward : (k : ℕ) (m : Machine X) → m.time ≤ (run_for f k m).machine.time
  unfolding run_for
  run_for-forward zero m = omega arith
  run_for-forward (suc k) m = by_end m.ended refl (run_for-forward k (step f m).machine)
    where
      by_end : (ended : Option End) → m.ended ≡ ended → (step f m).machine.time ≤ (run_for f k (step f m).machine).machine.time → m.time ≤ (run_for f (suc k) m).machine.time
      by_end (Some how) e rest = rw e (omega arith)
      by_end None e rest =
          let one = stepped-time m (current m) (eqb (current m).left 1) refl in
          subst (λ (s : Stepped X). m.time ≤ s.machine.time) (sym (run_for-suc k m e)) (omega (arith, one, rest))

  -- a machine that lived at first and has ended has run
  pub run_for-has_run : (k : ℕ) (m : Machine X) (how : End) → m.ended ≡ None → (run_for f k m).machine.ended ≡ Some how → m.time < (run_for f k m).machine.time
  unfolding run_for
  run_for-has_run zero m how lives over = absurd (let e : None ≡ Some how = sym lives ∙ over in cc)
  run_for-has_run (suc k) m how lives over =
      let one = stepped-time m (current m) (eqb (current m).left 1) refl in
      let rest = run_for-forward k (step f m).machine in
      subst (λ (s : Stepped X). m.time < s.machine.time) (sym (run_for-suc k m lives)) (omega (arith, one, rest))
