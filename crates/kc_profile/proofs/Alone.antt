-- States of one activity, or idle ones, in which the units do nothing.
use Rattle.std.proofs.Common.{◌≡◌, ◌≢◌, ℕ, zero, suc, ◌+◌, ◌-◌, ◌<◌, ◌≤◌, Bool, true, false, not, ◌⊎◌, inl, inr, List, [], ◌∷◌, ◌++◌, Option, Some, None, refl, sym, ◌∙◌, ap, subst, append-nil, arith}
use Rattle.std.specs.Prelude.{◌^◌, if◌then◌else◌, nat_le, Result, Ok, Err, IfOk, OnOk}
use Rattle.std.proofs.lemmas.Bool.{cases_lt, and_left, and_parts, eqb-true}
use Rattle.std.proofs.lemmas.Bool.Decides.{nat_tests}
use Rattle.kc_base.specs.declared.types.IntSet.{IntSet}
use Rattle.kc_span.specs.Span.{Rule, after, QuietFor, IsDue}
use Rattle.kc_exec_spec.specs.Status.{has}
use Rattle.kc_trace.specs.declared.trace.WriteFault.{WriteFault}
use Rattle.kc_intc.specs.Choosing.{choice_of}
use Rattle.kc_intc.specs.declared.requests.Choice.TheVariants.{Go}
use Rattle.kc_extra.specs.Further.{Further}
use Rattle.kc_block_spec.specs.declared.board_registers.BoardRegisters.{BoardRegisters}
use Rattle.kc_block_spec.specs.Units.{Units, Ticked}
use Rattle.kc_block_spec.specs.Fired.{fired_request}
use Rattle.kc_block_spec.specs.Laws.{IsQuietTick}
use Rattle.kc_block_spec.specs.Tick.{passes, rises_at, fired_at, timer2_out_at, hsi_out_at, further_out_at, raised_at, tick, ◌∪◌}
use Rattle.kc_block_spec.specs.Touch.{block_rule, worked, edges_of, in_state}
use Rattle.kc_block_spec.proofs.Quiet.{IsStill, still, zeros, pins_still, timers_still, hsi_still}
use Rattle.kc_block_spec.proofs.Rests.{rise, none_fired, none_captured, quiet_ticks_are_rests, quiet_ticks_keep_board_registers}
use Rattle.kc_machine_spec.specs.declared.doing.Activity.{Activity}
use Rattle.kc_machine_spec.specs.declared.doing.UnderWay.{UnderWay}
use Rattle.kc_machine_spec.specs.Machine.{Machine, Stepped, asked, current}
use Rattle.kc_machine_spec.specs.Passing.{after_ticks, ticks_of, passed, IsIdle}
use Rattle.kc_machine_spec.specs.Run.{run_for}
use Rattle.kc_machine_spec.proofs.Runs.{run-none, run_for-cut}
use Rattle.kc_machine_spec.specs.declared.doing.Activity.TheVariants.{Idles}
use Rattle.kc_machine_spec.proofs.Idle.{rests}
use Rattle.kc_machine.specs.Raising.{raised_in}
use Rattle.kc_profile.specs.Passing.{IsNoneOrIdle, IsAlone, PassesAlone}
use Rattle.kc_profile.specs.Sights.{ending}
use Rattle.kc_profile.proofs.Spotted.{current-idle}

unworked : (b : Bool) → not b ≡ true → b ≡ false
unworked true e = sym e
unworked false e = refl

le-later : (left k : ℕ) → nat_le (left - k) 1 ≡ nat_le left (k + 1)
le-later left k = grind (arith, nat_tests)

le-none : (left k : ℕ) → k < left → nat_le left k ≡ false
le-none left k less = grind (arith, nat_tests)

-- an activity that is under way ends where it would have ended
ends-later : (a : UnderWay) (k : ℕ) → ending (record a { left = a.left - k }) 1 ≡ ending a (k + 1)
ends-later a k = ap (λ b. if b then Some a.doing else None) (le-later a.left k)

abbrev idle_state : UnderWay
idle_state = record { doing = Idles; left = 1 }

ends-not : (a : UnderWay) (k : ℕ) → k < a.left → ending a k ≡ None
ends-not a k less = ap (λ b. if b then Some a.doing else None) (le-none a.left k less)

-- quiet states, some of them
pub quiet-for : {D : Type 0} (rule : Rule D) (from n k : ℕ) (d : D) → k ≤ n → QuietFor rule from n d → QuietFor rule from k d
quiet-for rule from n k d few quiet = λ i below. quiet i (omega (arith, below, few))

module _ {X : Type 0} (f : Further X) where
  -- ---- what a quiet Tick does not do

  -- it raises no request
  none-raised : (t : ℕ) (u : Units X) → IsStill f t u → raised_at t u ≡ 0
  none-raised t u is =
      zeros _ _ (zeros _ _ (zeros _ _
      (pins_still u.board_registers (rises_at t u) (rise t u is.inputs is.no_fire))
      (timers_still u.board_registers (passes t) (timer2_out_at t u) is.no_flag is.no_pass (none_captured t u is.inputs is.no_fire)))
      (hsi_still u.board_registers (hsi_out_at t u) is.no_move (and_left _ _ is.no_push) (and_left _ _ is.no_push)))
      (ap fired_request (none_fired t u is.inputs is.no_fire))

  further-none : (t : ℕ) (u : Units X) → IsStill f t u → (further_out_at f t u).raised.0 ≡ 0
  further-none t u is = eqb-true _ _ (and_parts _ _ is.silent).0

  pub quiet-raises : (t : ℕ) (u : Units X) → not (worked f t u) ≡ true → raised_at t u ∪ (further_out_at f t u).raised.0 ≡ 0
  quiet-raises t u quiet =
      let is = still f t u (unworked (worked f t u) quiet) in
      zeros _ _ (none-raised t u is) (further-none t u is)

  -- it keeps all data beside the units
  pub board-kept : (from n : ℕ) (u : Units X) → QuietFor (block_rule f) from n u → (after (block_rule f) from n u).board_registers ≡ u.board_registers
  unfolding after
  board-kept from zero u quiet = refl
  board-kept from (suc n) u quiet =
      quiet_ticks_keep_board_registers f (from + n) (after (block_rule f) from n u) (unworked (worked f (from + n) (after (block_rule f) from n u)) (quiet n (omega arith)))
      ∙ board-kept from n u (λ k within. quiet k (omega arith))

  -- it moves no pin
  pub quiet-edges : (from n : ℕ) (u : Units X) → QuietFor (block_rule f) from n u → edges_of f from n u ≡ []
  unfolding edges_of
  quiet-edges from zero u quiet = refl
  quiet-edges from (suc n) u quiet =
      let last : IsQuietTick f (from + n) (after (block_rule f) from n u) = quiet_ticks_are_rests f (from + n) (after (block_rule f) from n u) (unworked (worked f (from + n) (after (block_rule f) from n u)) (quiet n (omega arith))) in
      ap (λ es. edges_of f from n u ++ in_state (from + n) es) (ap (λ (t : Ticked X). t.edges) last.same)
      ∙ append-nil (edges_of f from n u)
      ∙ quiet-edges from n u (λ k within. quiet k (omega arith))

  -- ---- an activity

  alone-first : (m : Machine X) → m.ended ≡ None → IsAlone f 0 m m
  unfolding after
  alone-first m lives = record {
    time = omega arith;
    lives = lives;
    cpu = refl;
    memory = refl;
    units = refl;
    ends = refl;
  }

  alone-none : (m : Machine X) → m.ended ≡ None → IsAlone f 0 m (run_for f 0 m).machine
  alone-none m lives = subst (λ (s : Stepped X). IsAlone f 0 m s.machine) (sym (run-none f m)) (alone-first m lives)

  alone-cut : (k : ℕ) (m : Machine X) → m.ended ≡ None → 0 < k → k < (current m).left → IsAlone f k m (run_for f k m).machine
  alone-cut k m lives some few =
      let there : run_for f k m ≡ passed f m (current m) k = run_for-cut f k m (current m) lives refl some few in
      let is : IsAlone f k m (passed f m (current m) k).machine = record {
        time = refl;
        lives = lives;
        cpu = refl;
        memory = refl;
        units = refl;
        ends = ends-later (current m) k;
      } in
      subst (λ (s : Stepped X). IsAlone f k m s.machine) (sym there) is

  alone-within : (k : ℕ) (m : Machine X) → m.ended ≡ None → k < (current m).left → IsAlone f k m (run_for f k m).machine
  alone-within zero m lives few = alone-none m lives
  alone-within (suc k) m lives few = alone-cut (suc k) m lives (omega arith) few

  pub alone-activity : (n : ℕ) (m : Machine X) → m.ended ≡ None → n ≤ (current m).left → QuietFor (block_rule f) m.time (n - 1) m.board.units → PassesAlone f n m
  alone-activity n m lives few quiet = record {
    each = λ k below. alone-within k m lives (omega (arith, below, few));
    between = λ k below. inl (ends-not (current m) (k + 1) (omega (arith, below, few)));
    quiet = quiet;
  }

  -- one state
  pub alone-one : (m : Machine X) → m.ended ≡ None → PassesAlone f 1 m
  alone-one m lives = record {
    each = λ k below. (let none : k ≡ 0 = omega (arith, below) in subst (λ i. IsAlone f i m (run_for f i m).machine) (sym none) (alone-none m lives));
    between = λ k below. absurd (omega (arith, below));
    quiet = λ k below. absurd (omega (arith, below));
  }

  -- ---- idle states

  none-asked : (k : ℕ) (m : Machine X) → asked m ≡ Go → QuietFor (block_rule f) m.time k m.board.units → asked (after_ticks f m k None) ≡ Go
  none-asked k m none quiet = ap (λ (s : BoardRegisters). choice_of (has 4 m.cpu.psw_high) (has 2 m.cpu.psw_high) s.requests) (board-kept m.time k m.board.units quiet) ∙ none

  idles-on : (m : Machine X) (k : ℕ) → IsIdle m → IsIdle (after_ticks f m k None)
  idles-on m k idle = record { idling = idle.idling; free = idle.free; between = refl; lives = idle.lives }

  alone-rests : (k : ℕ) (m : Machine X) → IsIdle m → asked m ≡ Go → QuietFor (block_rule f) m.time k m.board.units → IsAlone f k m (run_for f k m).machine
  alone-rests k m idle none quiet =
      let there : run_for f k m ≡ ticks_of f m k None = rests f k m idle (λ i below. none-asked i m none (quiet-for (block_rule f) m.time k i m.board.units (omega (arith, below)) quiet)) in
      let first : current m ≡ idle_state = current-idle f m idle none in
      let later : current (after_ticks f m k None) ≡ idle_state = current-idle f (after_ticks f m k None) (idles-on m k idle) (none-asked k m none quiet) in
      let is : IsAlone f k m (after_ticks f m k None) = record {
        time = refl;
        lives = idle.lives;
        cpu = refl;
        memory = refl;
        units = refl;
        ends = ap (λ (a : UnderWay). ending a 1) later ∙ idle-ends k ∙ ap (λ (a : UnderWay). ending a (k + 1)) (sym first);
      } in
      subst (λ (s : Stepped X). IsAlone f k m s.machine) (sym there) is
    where
      one-le : (i : ℕ) → nat_le 1 (i + 1) ≡ true
      one-le i = grind (arith, nat_tests)

      idle-ends : (i : ℕ) → ending idle_state 1 ≡ ending idle_state (i + 1)
      idle-ends i = sym (ap (λ b. if b then Some idle_state.doing else None) (one-le i))

  pub alone-idle : (n : ℕ) (m : Machine X) → IsIdle m → asked m ≡ Go → QuietFor (block_rule f) m.time (n - 1) m.board.units → PassesAlone f n m
  alone-idle n m idle none quiet = record {
    each = λ k below. alone-rests k m idle none (quiet-for (block_rule f) m.time (n - 1) k m.board.units (omega (arith, below)) quiet);
    between = λ k below. inr (ap (λ (a : UnderWay). ending a (k + 1)) (current-idle f m idle none) ∙ idle-ended k);
    quiet = quiet;
  }
    where
      one-le : (i : ℕ) → nat_le 1 (i + 1) ≡ true
      one-le i = grind (arith, nat_tests)

      idle-ended : (i : ℕ) → ending idle_state (i + 1) ≡ Some idle_state.doing
      idle-ended i = ap (λ b. if b then Some idle_state.doing else None) (one-le i)

  -- ---- what is raised in the last of some quiet states

  pub none-raised-last : (n : ℕ) (m : Machine X) → 0 < n → PassesAlone f n m → QuietFor (block_rule f) m.time n m.board.units → raised_in f (run_for f (n - 1) m).machine ≡ 0
  none-raised-last n m some alone quiet =
      let last : Machine X = (run_for f (n - 1) m).machine in
      let here : IsAlone f (n - 1) m last = alone.each (n - 1) (omega (arith, some)) in
      ap (λ t. raised_at t last.board.units ∪ (further_out_at f t last.board.units).raised.0) here.time
      ∙ ap (λ u. raised_at (m.time + (n - 1)) u ∪ (further_out_at f (m.time + (n - 1)) u).raised.0) here.units
      ∙ quiet-raises (m.time + (n - 1)) (after (block_rule f) m.time (n - 1) m.board.units) (quiet (n - 1) (omega (arith, some)))

-- what was answered is what is raised
pub none-answered : (r : Result IntSet WriteFault) (raised : ℕ) → IfOk r (λ set. set.0 ≡ 0) → raised ≡ 0 → IfOk r (λ set. set.0 ≡ raised)
none-answered (Ok set) raised h e = h ∙ sym e
none-answered (Err fault) raised h e = tt

-- up to where something is due all states are quiet
pub quiet-due : {D : Type 0} (rule : Rule D) (now : ℕ) (d : D) (at : ℕ) → IsDue rule now d (Some at) ⊎ ((at ≡ 2 ^ 64 - 1) × IsDue rule now d None) → QuietFor rule now (at - now) d
quiet-due rule now d at (inl due) = due.before
quiet-due rule now d at (inr never) = never.1 (at - now)

module _ {X : Type 0} (f : Further X) where
  -- a call that goes on by one state, where it is Ok
  pub alone-one-of : (r : Result IntSet WriteFault) (m : Machine X) (time : ℕ) → m.ended ≡ None → OnOk r (time ≡ m.time + 1) → OnOk r (PassesAlone f (time - m.time) m)
  alone-one-of (Ok set) m time lives one = let e : 1 ≡ time - m.time = omega (arith, one) in subst (λ i. PassesAlone f i m) e (alone-one f m lives)
  alone-one-of (Err fault) m time lives one = tt

  pub raised-one : (r : Result IntSet WriteFault) (m : Machine X) (time : ℕ) → OnOk r (time ≡ m.time + 1) → IfOk r (λ set. set.0 ≡ raised_in f m) → IfOk r (λ set. set.0 ≡ raised_in f (run_for f (time - m.time - 1) m).machine)
  raised-one (Ok set) m time one is =
      let e : 0 ≡ time - m.time - 1 = omega (arith, one) in
      is ∙ sym (ap (λ (s : Stepped X). raised_in f s.machine) (run-none f m)) ∙ ap (λ i. raised_in f (run_for f i m).machine) e
  raised-one (Err fault) m time one is = tt
