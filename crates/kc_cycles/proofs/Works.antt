-- The touch of lives is within their work.
use Rattle.std.proofs.Common.{◌≡◌, ℕ, zero, suc, ◌+◌, ◌-◌, ◌*◌, ◌≤◌, ◌==◌, Bool, true, false, if◌then◌else◌, List, [], Option, Some, None, refl, arith}
use Rattle.kc_stim.specs.Drives.{Drives, driven_from}
use Rattle.kc_extra.specs.Further.{Further}
use Rattle.kc_machine_spec.specs.declared.doing.End.{End}
use Rattle.kc_machine_spec.specs.Machine.{Machine, start, current, step}
use Rattle.kc_machine_spec.specs.Work.{work_with, work_for, work_to}
use Rattle.kc_machine_spec.proofs.Runs.{stepped-time}
use Rattle.kc_machine_spec.proofs.Works.{step-within, work-suc}
use Rattle.kc_cycles.specs.Life.{Life, is_at, over, bitten, goes_on, lives_on, life_for}
use Rattle.kc_cycles.specs.Lives.{is_reset, life_from, lives_from, lives_touch, work_in_life, work_from}

module _ {X : Type 0} (f : Further X) (deadline : X → Option ℕ) where
  step-time : (m : Machine X) → (step f m).machine.time ≡ m.time + 1
  step-time m = stepped-time f m (current m) ((current m).left == 1) refl

  -- a life does not go back
  life-forward : (n : ℕ) (m : Machine X) → m.time ≤ (life_for f deadline n m).ran.machine.time
  unfolding life_for
  life-forward zero m = omega arith
  life-forward (suc n) m = by m.ended (is_at (deadline m.board.units.further) m.time) (life-forward n (step f m).machine)
    where
      by : (ended : Option End) (late : Bool) → (step f m).machine.time ≤ (life_for f deadline n (step f m).machine).ran.machine.time
          → m.time ≤ (lives_on ended late m (goes_on (step f m) (life_for f deadline n))).ran.machine.time
      by (Some how) late rest = omega arith
      by None true rest = omega arith
      by None false rest = let now = step-time m in omega (arith, now, rest)

  pub life-within : (n : ℕ) (m : Machine X) → (life_for f deadline n m).ran.touch ≤ 4 * work_to f (life_for f deadline n m).ran.machine.time m
  unfolding life_for
  life-within zero m = omega arith
  life-within (suc n) m = by m.ended refl (is_at (deadline m.board.units.further) m.time) (life-within n (step f m).machine)
    where
      others : Life X
      others = life_for f deadline n (step f m).machine

      by : (ended : Option End) → m.ended ≡ ended → (late : Bool) → others.ran.touch ≤ 4 * work_to f others.ran.machine.time (step f m).machine
          → (lives_on ended late m (goes_on (step f m) (life_for f deadline n))).ran.touch
          ≤ 4 * work_to f (lives_on ended late m (goes_on (step f m) (life_for f deadline n))).ran.machine.time m
      by (Some how) e late rest = omega arith
      by None e true rest = omega arith
      by None e false rest =
          let now = step-time m in
          let later = life-forward n (step f m).machine in
          let span : others.ran.machine.time - m.time ≡ suc (others.ran.machine.time - (step f m).machine.time) = omega (arith, now, later) in
          let one = step-within f m in
          let more = work-suc f (others.ran.machine.time - (step f m).machine.time) m e in
          rw span (omega (arith, one, more, rest))

module _ {X : Type 0} (f : Further X) (deadline : X → Option ℕ) (image : List ℕ) (drives : Drives) (unit : ℕ → X) (until : ℕ) where
  pub lives-within : (more from : ℕ) → lives_touch (lives_from f deadline image drives unit until more from) ≤ 4 * work_from f deadline image drives unit until more from
  unfolding lives_from lives_touch work_from
  lives-within zero from = omega arith
  lives-within (suc more) from = by (is_reset life.how) (lives-within more (from + life.ran.machine.time))
    where
      life : Life X
      life = life_from f deadline image drives unit until from

      first : life.ran.touch ≤ 4 * work_in_life f deadline image drives unit until from
      first = life-within f deadline (until - from) (start image (driven_from from drives) (unit from))

      by : (reset : Bool)
          → lives_touch (lives_from f deadline image drives unit until more (from + life.ran.machine.time)) ≤ 4 * work_from f deadline image drives unit until more (from + life.ran.machine.time)
          → life.ran.touch + lives_touch (if reset then lives_from f deadline image drives unit until more (from + life.ran.machine.time) else [])
          ≤ 4 * (work_in_life f deadline image drives unit until from + (if reset then work_from f deadline image drives unit until more (from + life.ran.machine.time) else 0))
      by true rest = omega (arith, first, rest)
      by false rest = let none : lives_touch {X = X} [] ≡ 0 = refl in omega (arith, first, none)
