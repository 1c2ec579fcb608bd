-- The touch of a run is within its work.
use Rattle.std.proofs.Common.{◌≡◌, ℕ, zero, suc, ◌+◌, ◌*◌, ◌<◌, ◌≤◌, ◌==◌, nat_lt, Bool, true, false, if◌then◌else◌, is_some, List, [], Option, Some, None, Result, Ok, Err, refl, sym, ◌∙◌, ap, subst, arith}
use Rattle.std.proofs.lemmas.Bool.Decides.{nat_tests}
use Rattle.kc_base.specs.declared.types.Kind.{Kind}
use Rattle.kc_isa.specs.declared.insn.Insn.{Insn}
use Rattle.kc_exec_spec.specs.declared.cpu.After.{After}
use Rattle.kc_exec_spec.specs.declared.cpu.Cpu.{Cpu}
use Rattle.kc_exec_spec.specs.declared.access.Access.{Access}
use Rattle.kc_exec_spec.specs.declared.access.Access.TheVariants.{ReadByte, ReadWord, WriteByte, WriteWord, SetMasks}
use Rattle.kc_exec_spec.specs.Effect.{Effect, End, Undefined, Look, Ask, Outcome, Done, Refused, answered, run}
use Rattle.kc_exec_spec.specs.Effects.{effect_of}
use Rattle.kc_exec_spec.specs.BlockMoves.{moved_word}
use Rattle.kc_exec_spec.specs.Entering.{vector_at, entry, opcode_trap}
use Rattle.kc_extra.specs.Further.{Further}
use Rattle.kc_intc.specs.Changes.{ended_of}
use Rattle.kc_pts.specs.declared.cycle.Cycle.{Cycle}
use Rattle.kc_pts.specs.Cycles.{set_up, served}
use Rattle.kc_trace.specs.declared.record.Record.{Record}
use Rattle.kc_block_spec.specs.Units.{Units}
use Rattle.kc_block_spec.specs.Registers.{bytes_read_everywhere, bytes_written_everywhere, row_at}
use Rattle.kc_block_spec.specs.Tick.{tick}
use Rattle.kc_block_spec.specs.Touch.{one_if, touched, worked}
use Rattle.kc_block_spec.proofs.Counts.{four_touched}
use Rattle.kc_block_spec.proofs.Rests.{quiet_ticks_are_rests}
use Rattle.kc_machine_spec.specs.declared.doing.Activity.{Activity}
use Rattle.kc_machine_spec.specs.declared.doing.Activity.TheVariants.{Executes, MovesWord, Traps, Enters, SetsUp, Transfers, Idles, Breaks}
use Rattle.kc_machine_spec.specs.declared.doing.End.{End as Ending}
use Rattle.kc_machine_spec.specs.declared.doing.UnderWay.{UnderWay}
use Rattle.kc_machine_spec.specs.Board.{masks_of}
use Rattle.kc_machine_spec.specs.Scene.{Scene, with_units as scene_with, all_kept, refusing, put, byte_weight, is_zero_register, word_weight, scene_answer, after_by, scene_meaning}
use Rattle.kc_machine_spec.specs.Machine.{Machine, Stepped, step, stepped, current, finished, waiting, with_units, with_asked, settled, entered, trapped, prepared, cycled, handed, transferred, own_records, scene_of}
use Rattle.kc_machine_spec.specs.Run.{run_for}
use Rattle.kc_machine_spec.specs.Work.{of_register, register_access, if_accepted, register_accesses, accesses_of, work_of, work_with, work_for, TouchIsWithinWork}
use Rattle.kc_machine_spec.proofs.Runs.{run_for-suc, run_for-ended}

-- ---- one access

register_one : (addr : ℕ) → 2 ≤ addr → addr < 24 → of_register addr ≡ 1
register_one addr low high =
    let e : nat_lt addr 2 ≡ false = grind (arith, nat_tests) in
    let g : nat_lt addr 24 ≡ true = grind (arith, nat_tests) in
    rw (e, g) refl

one_most : (b : Bool) → (if b then 0 else 1) ≤ 1
one_most true = omega arith
one_most false = omega arith

read_within : (addr : ℕ) → addr < 24 → byte_weight bytes_read_everywhere addr ≤ 2 * of_register addr
unfolding bytes_read_everywhere
read_within zero below = let e : byte_weight bytes_read_everywhere 0 ≡ 0 = refl in omega (arith, e)
read_within (suc zero) below = let e : byte_weight bytes_read_everywhere 1 ≡ 0 = refl in omega (arith, e)
read_within (suc (suc n)) below =
    let one = register_one (suc (suc n)) (omega arith) below in
    let few : byte_weight bytes_read_everywhere (suc (suc n)) ≤ 1 = one_most (is_some (row_at bytes_read_everywhere (suc (suc n)))) in
    omega (arith, one, few)

written_within : (addr : ℕ) → addr < 24 → byte_weight bytes_written_everywhere addr ≤ 2 * of_register addr
unfolding bytes_written_everywhere
written_within zero below = let e : byte_weight bytes_written_everywhere 0 ≡ 0 = refl in omega (arith, e)
written_within (suc zero) below = let e : byte_weight bytes_written_everywhere 1 ≡ 0 = refl in omega (arith, e)
written_within (suc (suc n)) below =
    let one = register_one (suc (suc n)) (omega arith) below in
    let few : byte_weight bytes_written_everywhere (suc (suc n)) ≤ 1 = one_most (is_some (row_at bytes_written_everywhere (suc (suc n)))) in
    omega (arith, one, few)

two_most : (b : Bool) → (if b then 0 else 2) ≤ 2
two_most true = omega arith
two_most false = omega arith

word_within : (addr : ℕ) → addr < 24 → word_weight addr ≤ 2 * of_register addr
unfolding bytes_read_everywhere
word_within zero below = let e : word_weight 0 ≡ 0 = refl in omega (arith, e)
word_within (suc zero) below = let e : word_weight 1 ≡ 0 = refl in omega (arith, e)
word_within (suc (suc n)) below =
    let one = register_one (suc (suc n)) (omega arith) below in
    let few : word_weight (suc (suc n)) ≤ 2 = two_most (is_zero_register (row_at bytes_read_everywhere (suc (suc n)))) in
    omega (arith, one, few)

module _ {X : Type 0} where
  either-reaches : (addr n weight : ℕ) (s : Scene X) (u : Units X) (other : Scene X) → (addr < 24 → weight ≤ n) → other.reached ≡ s.reached →
      (if nat_lt addr 24 then scene_with all_kept s u weight else other).reached ≤ s.reached + n
  unfolding scene_with
  either-reaches addr n weight s u other few same = by (nat_lt addr 24) refl
    where
      by : (b : Bool) → nat_lt addr 24 ≡ b → (if b then scene_with all_kept s u weight else other).reached ≤ s.reached + n
      by true e = let below : addr < 24 = grind (arith, nat_tests) in let most = few below in omega (arith, most)
      by false e = omega (arith, same)

  -- what the bus counts after an effect
  abbrev left_by : {A : Type 0} → Outcome A (Scene X) → ℕ
  left_by (Done a s) = s.reached
  left_by (Refused kind s) = s.reached

module _ {X : Type 0} (f : Further X) where
  reaches : (s : Scene X) (r : Access) → (after_by f all_kept s r).reached ≤ s.reached + 2 * register_access r
  unfolding scene_with
  reaches s (ReadByte by addr) = either-reaches addr (2 * of_register addr) (byte_weight bytes_read_everywhere addr) s _ s (read_within addr) refl
  reaches s (ReadWord by addr) = either-reaches addr (2 * of_register addr) (word_weight addr) s _ s (word_within addr) refl
  reaches s (WriteByte by addr n) = either-reaches addr (2 * of_register addr) (byte_weight bytes_written_everywhere addr) s _ (put s addr n) (written_within addr) refl
  reaches s (WriteWord by addr n) = either-reaches addr (2 * of_register addr) (word_weight addr) s _ _ (word_within addr) refl
  reaches s (SetMasks m) = omega arith

  -- ---- the accesses of an effect

  answered-reaches : {A : Type 0} (next : ℕ → Effect A) (s : Scene X) (r : Access) (a : Result ℕ Kind) →
      ((i : ℕ) → left_by (run (scene_meaning f) (next i) (after_by f all_kept s r)) ≤ (after_by f all_kept s r).reached + 2 * register_accesses (scene_meaning f) (next i) (after_by f all_kept s r)) →
      left_by (answered a (λ i. run (scene_meaning f) (next i) (after_by f all_kept s r)) (refusing s r))
      ≤ s.reached + 2 * (register_access r + if_accepted a (λ i. register_accesses (scene_meaning f) (next i) (after_by f all_kept s r)))
  answered-reaches next s r (Ok i) rest = let one = reaches s r in let more = rest i in omega (arith, one, more)
  answered-reaches next s r (Err kind) rest = omega arith

  run-reaches : {A : Type 0} (t : Effect A) (s : Scene X) → left_by (run (scene_meaning f) t s) ≤ s.reached + 2 * register_accesses (scene_meaning f) t s
  run-reaches (End a) s = omega arith
  run-reaches (Undefined kind) s = omega arith
  run-reaches (Look next) s = run-reaches (next (masks_of s.board.units)) s
  run-reaches (Ask r next) s = answered-reaches next s r (scene_answer f s r) (λ i. run-reaches (next i) (after_by f all_kept s r))

  activity-reaches : {A : Type 0} (t : Effect A) (m : Machine X) → left_by (run (scene_meaning f) t (scene_of m)) ≤ 2 * accesses_of f t m
  activity-reaches t m =
      let all : left_by (run (scene_meaning f) t (scene_of m)) ≤ 0 + 2 * accesses_of f t m = run-reaches t (scene_of m) in
      omega (arith, all)

-- ---- what is touched at the end of an activity

module _ {X : Type 0} where
  settled-touch : (m : Machine X) (insn : Insn) (records : List Record) (o : Outcome (After × Cpu) (Scene X)) → (settled m insn records o).touch ≡ left_by o
  settled-touch m insn records (Done done scene) = refl
  settled-touch m insn records (Refused kind scene) = refl

  entered-touch : (m : Machine X) (number : ℕ) (o : Outcome ℕ (Scene X)) → (entered m number o).touch ≡ left_by o
  entered-touch m number (Done pc scene) = refl
  entered-touch m number (Refused kind scene) = refl

  trapped-touch : (m : Machine X) (o : Outcome ℕ (Scene X)) → (trapped m o).touch ≡ left_by o
  trapped-touch m (Done pc scene) = refl
  trapped-touch m (Refused kind scene) = refl

  prepared-touch : (m : Machine X) (number : ℕ) (o : Outcome Cycle (Scene X)) → (prepared m number o).touch ≡ left_by o
  prepared-touch m number (Done cycle scene) = refl
  prepared-touch m number (Refused kind scene) = refl

  either-touch : (b : Bool) (x y : Scene X) → x.reached ≡ y.reached → (if b then x else y).reached ≡ y.reached
  either-touch true x y e = e
  either-touch false x y e = refl

  cycled-touch : (m : Machine X) (number : ℕ) (cycle : Cycle) (count : Option ℕ) (scene : Scene X) → (cycled m number cycle count scene).touch ≡ scene.reached
  cycled-touch m number cycle None scene = refl
  cycled-touch m number cycle (Some count) scene = either-touch (count == 0) (with_asked (ended_of number) scene) scene refl

  transferred-touch : (m : Machine X) (number : ℕ) (o : Outcome (Cycle × Option ℕ) (Scene X)) → (transferred m number o).touch ≡ left_by o
  transferred-touch m number (Done done scene) = cycled-touch m number done.0 done.1 scene
  transferred-touch m number (Refused kind scene) = refl

module _ {X : Type 0} (f : Further X) where
  finished-within : (doing : Activity) (m : Machine X) → (finished f doing m).touch ≤ 2 * work_of f doing m
  unfolding finished work_of
  finished-within (Executes insn) m =
      let all = activity-reaches f (effect_of insn m.cpu) m in
      let touch = settled-touch m insn (own_records m.time m.cpu.pc insn) (run (scene_meaning f) (effect_of insn m.cpu) (scene_of m)) in
      omega (arith, all, touch)
  finished-within (MovesWord insn words) m =
      let all = activity-reaches f (moved_word insn words m.cpu) m in
      let touch = settled-touch m insn [] (run (scene_meaning f) (moved_word insn words m.cpu) (scene_of m)) in
      omega (arith, all, touch)
  finished-within Traps m =
      let all = activity-reaches f (opcode_trap m.cpu.pc) m in
      let touch = trapped-touch m (run (scene_meaning f) (opcode_trap m.cpu.pc) (scene_of m)) in
      omega (arith, all, touch)
  finished-within (Enters number) m =
      let all = activity-reaches f (entry (vector_at number) m.cpu.pc) m in
      let touch = entered-touch m number (run (scene_meaning f) (entry (vector_at number) m.cpu.pc) (scene_of m)) in
      omega (arith, all, touch)
  finished-within (SetsUp number) m =
      let all = activity-reaches f (set_up number) m in
      let touch = prepared-touch m number (run (scene_meaning f) (set_up number) (scene_of m)) in
      omega (arith, all, touch)
  finished-within (Transfers number cycle) m =
      let all = activity-reaches f (served cycle) m in
      let touch = transferred-touch m number (run (scene_meaning f) (served cycle) (scene_of m)) in
      omega (arith, all, touch)
  finished-within Idles m = omega arith
  finished-within (Breaks kind) m = omega arith

  -- ---- one state time

  touched-within : (t : ℕ) (u : Units X) → touched f t u ≤ 4 * one_if (worked f t u)
  touched-within t u = by (worked f t u) refl
    where
      by : (b : Bool) → worked f t u ≡ b → touched f t u ≤ 4 * one_if b
      by true e = let four = four_touched f t u in omega (arith, four)
      by false e = let none = (quiet_ticks_are_rests f t u e).untouched in omega (arith, none)

  stepped-within : (m : Machine X) (a : UnderWay) → (stepped f m a).touch ≤ 4 * work_with f m a
  unfolding stepped work_with
  stepped-within m a = by (a.left == 1)
    where
      moved : Machine X
      moved = with_units m (tick f m.time m.board.units).units

      by : (last : Bool) → touched f m.time m.board.units + (if last then finished f a.doing moved else waiting a moved).touch
          ≤ 4 * (one_if (worked f m.time m.board.units) + (if last then work_of f a.doing moved else 0))
      by true =
          let one = touched-within m.time m.board.units in
          let rest = finished-within a.doing moved in
          omega (arith, one, rest)
      by false = let one = touched-within m.time m.board.units in omega (arith, one)

  pub step-within : (m : Machine X) → (step f m).touch ≤ 4 * work_with f m (current m)
  step-within m = stepped-within m (current m)

  -- ---- a run

  pub work-suc : (n : ℕ) (m : Machine X) → m.ended ≡ None → work_for f (suc n) m ≡ work_with f m (current m) + work_for f n (step f m).machine
  unfolding work_for
  work-suc n m e = rw e refl

  pub touch_is_within_work : (n : ℕ) (m : Machine X) → (run_for f n m).touch ≤ 4 * work_for f n m
  unfolding run_for work_for
  touch_is_within_work zero m = omega arith
  touch_is_within_work (suc n) m = by m.ended refl (touch_is_within_work n (step f m).machine)
    where
      by : (ended : Option Ending) → m.ended ≡ ended → (run_for f n (step f m).machine).touch ≤ 4 * work_for f n (step f m).machine → (run_for f (suc n) m).touch ≤ 4 * work_for f (suc n) m
      by (Some how) e rest = let none = ap (λ (s : Stepped X). s.touch) (run_for-ended f (suc n) m how e) in omega (arith, none)
      by None e rest =
          let goes = ap (λ (s : Stepped X). s.touch) (run_for-suc f n m e) in
          let more = work-suc n m e in
          let one = step-within m in
          omega (arith, goes, more, one, rest)
