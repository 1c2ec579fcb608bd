-- A Tick in which nothing is worked.
use Rattle.std.proofs.Common.{◌≡◌, ℕ, zero, suc, ◌+◌, ◌*◌, ◌%◌, ◌^◌, ◌≤◌, ◌==◌, Bool, true, false, not, ◌&&◌, ◌||◌, refl, ◌∙◌, ap, arith, [], bit_and, bit_or, bit_xor}
use Rattle.std.specs.Prelude.{if◌then◌else◌}
use Rattle.std.proofs.lemmas.Bool.{or_parts, or_from, eqb-true, eq-eqb, not-false, not_from_true}
use Rattle.std.proofs.lemmas.Nat.{and_le_l, and_le_r}
use Rattle.std.proofs.Math.Nat.{zero-div}
use lib.Bits.{or_zero_r, xor_add_and, xor_self}
use Rattle.kc_base.specs.Bits.{bit}
use Rattle.kc_timers.specs.declared.T2Out.{T2Out}
use Rattle.kc_hso.specs.Cam.{fires, slot_at, loads}
use Rattle.kc_hsi.specs.declared.hsi.HsiOut.{HsiOut}
use Rattle.kc_hsi.specs.Input.{gathered_with, is_push, is_move}
use Rattle.kc_extra.specs.Further.{Further, is_silent}
use Rattle.kc_block_spec.specs.declared.board_registers.BoardRegisters.{BoardRegisters}
use Rattle.kc_block_spec.specs.Units.{Units}
use Rattle.kc_block_spec.specs.Levels.{edges_below}
use Rattle.kc_block_spec.specs.Tick.{passes, edges_at, timer2_out_at, hsi_edges_at, ◌∪◌, pin_requests, timer_requests, hsi_requests, board_registers_after, further_out_at}
use Rattle.kc_block_spec.specs.Touch.{hso_works, hsi_works, further_works, worked}

-- masks without a difference are the same
pub same_masks : (a b : ℕ) → bit_xor a b ≡ 0 → a ≡ b
same_masks a b none =
    let sum : bit_xor a b + bit_and a b * 2 ≡ a + b = xor_add_and a b in
    let left : bit_and a b ≤ a = and_le_l a b in
    let right : bit_and a b ≤ b = and_le_r a b in
    omega (arith, none)

pub zeros : (a b : ℕ) → a ≡ 0 → b ≡ 0 → a ∪ b ≡ 0
zeros a b p q = ap (λ n. bit_or n b) p ∙ q

-- nothing is raised by pins, timers and HSI
pub either_off : (b : Bool) → (if b then false else false) ≡ false
either_off true = refl
either_off false = refl

pub pins_still : (s : BoardRegisters) (rise : ℕ) → rise ≡ 0 → pin_requests s rise ≡ 0
pins_still s rise none = rw (none, either_off (bit s.ioc1 1)) refl

pub timers_still : (s : BoardRegisters) (passed : Bool) (out : T2Out) → (passed && bit s.ioc1 2) ≡ false → out.overflow ≡ false → out.captured ≡ false →
    timer_requests s passed out ≡ 0
timers_still s passed out first overflow captured = rw (first, overflow, captured) refl

pub hsi_still : (s : BoardRegisters) (out : HsiOut) → out.loaded ≡ false → out.fourth ≡ false → out.sixth ≡ false → hsi_requests s out ≡ 0
hsi_still s out loaded fourth sixth = rw (loaded, fourth, sixth, either_off (bit s.ioc1 7)) refl

pub board_registers_still : (s : BoardRegisters) (levels ios1 ios2 raised : ℕ) → levels ≡ s.levels → ios1 ≡ 0 → ios2 ≡ 0 → raised ≡ 0 → board_registers_after s levels ios1 ios2 raised ≡ s
board_registers_still s levels ios1 ios2 raised e f g h = rw (e, f, g, h, or_zero_r s.ios1, or_zero_r s.ios2, or_zero_r s.requests.pending) refl

-- no bit is set in 0
pub bit_none : (n : ℕ) → bit 0 n ≡ false
bit_none n = ap (λ k. k % 2 == 1) (zero-div (2 ^ n))

-- no edge between a mask and itself
pub edges_none : (mask n : ℕ) → edges_below mask mask n ≡ []
unfolding edges_below
edges_none mask zero = refl
edges_none mask (suc n) = rw (edges_none mask n, xor_self mask, bit_none n) refl

-- what holds in a state in which nothing is worked
pub record IsStill {X : Type 0} (f : Further X) (t : ℕ) (u : Units X) : Type 0 where
  pub inputs : edges_at t u ≡ 0
  pub no_fire : fires (slot_at u.hso t) t u.timer2.value ≡ false
  pub no_load : loads u.hso t ≡ false
  pub no_pass : (timer2_out_at t u).overflow ≡ false
  pub no_push : is_push t (gathered_with (hsi_edges_at t u) u.hsi) ≡ false
  pub no_move : is_move t u.hsi ≡ false
  pub silent : is_silent (further_out_at f t u) ≡ true
  pub no_flag : (passes t && bit u.board_registers.ioc1 2) ≡ false

pub still : {X : Type 0} (f : Further X) (t : ℕ) (u : Units X) → worked f t u ≡ false → IsStill f t u
unfolding worked
still f t u none =
    let a = or_parts (not (edges_at t u == 0)) (hso_works t u || ((timer2_out_at t u).overflow || (hsi_works t u || (further_works f t u || (passes t && bit u.board_registers.ioc1 2))))) none in
    let b = or_parts (hso_works t u) ((timer2_out_at t u).overflow || (hsi_works t u || (further_works f t u || (passes t && bit u.board_registers.ioc1 2)))) a.1 in
    let c = or_parts (timer2_out_at t u).overflow (hsi_works t u || (further_works f t u || (passes t && bit u.board_registers.ioc1 2))) b.1 in
    let d = or_parts (hsi_works t u) (further_works f t u || (passes t && bit u.board_registers.ioc1 2)) c.1 in
    let e = or_parts (further_works f t u) (passes t && bit u.board_registers.ioc1 2) d.1 in
    let hso = or_parts (fires (slot_at u.hso t) t u.timer2.value) (loads u.hso t) b.0 in
    let hsi = or_parts (is_push t (gathered_with (hsi_edges_at t u) u.hsi)) (is_move t u.hsi) d.0 in
    record {
      inputs = eqb-true (edges_at t u) 0 (not-false (edges_at t u == 0) a.0);
      no_fire = hso.0;
      no_load = hso.1;
      no_pass = c.0;
      no_push = hsi.0;
      no_move = hsi.1;
      silent = not-false (is_silent (further_out_at f t u)) e.0;
      no_flag = e.1;
    }

pub worked_from : {X : Type 0} (f : Further X) (t : ℕ) (u : Units X) → IsStill f t u → worked f t u ≡ false
unfolding worked
worked_from f t u is =
    or_from _ _ (not_from_true (edges_at t u == 0) (eq-eqb (edges_at t u) 0 is.inputs))
    (or_from _ _ (or_from _ _ is.no_fire is.no_load)
    (or_from _ _ is.no_pass
    (or_from _ _ (or_from _ _ is.no_push is.no_move)
    (or_from _ _ (not_from_true (is_silent (further_out_at f t u)) is.silent) is.no_flag))))
