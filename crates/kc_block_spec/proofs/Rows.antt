-- A unit that a Tick does not touch goes on by itself.
use Rattle.std.proofs.Common.{◌≡◌, ℕ, ◌+◌, ◌%◌, ◌<◌, ◌==◌, Bool, true, false, not, ◌&&◌, ◌||◌, refl, sym, ◌∙◌, ap, arith, Option, bit_and, bit_or, bit_xor, min}
use Rattle.std.specs.Prelude.{if◌then◌else◌}
use Rattle.std.specs.Int.{bit_at}
use Rattle.std.proofs.lemmas.Nat.Bits.{bit_at_xor, bit_at_and, bit_at-lt}
use Rattle.std.proofs.lemmas.Bool.{or_parts, and_from, eqb-true, eqb-false, ne_eqb, not-false, not_from_false}
use lib.Bits.{or_zero_r}
use Rattle.kc_base.specs.Pins.{hsi0, hsi1, hsi2, hsi3, t2clk, t2rst, t2ud, t2cap}
use Rattle.kc_base.specs.Bits.{bit}
use Rattle.kc_timers.specs.declared.T2Control.{T2Control}
use Rattle.kc_timers.specs.declared.T2Inputs.{T2Inputs}
use Rattle.kc_timers.specs.T2 as t2
use Rattle.kc_hso.specs.Cam as cam
use Rattle.kc_hso.proofs.Rest.{keep_unseen}
use Rattle.kc_hsi.specs.Input as hsi
use Rattle.kc_hsi.specs.Still.{no_edges_with}
use Rattle.kc_hsi.proofs.Still.{enabled_matter_at_edges_alone, events_none}
use Rattle.kc_extra.specs.Further.{Further, is_silent}
use Rattle.kc_block_spec.specs.declared.board_registers.BoardRegisters.{BoardRegisters}
use Rattle.kc_block_spec.specs.Units.{Units}
use Rattle.kc_block_spec.specs.Levels.{levels_at}
use Rattle.kc_block_spec.specs.Fired.{resets, starts}
use Rattle.kc_block_spec.specs.Control.{control_of, timer2_inputs, hsi_bits, hsi_enabled}
use Rattle.kc_block_spec.specs.Tick.{edges_at, rises_at, fired_at, control_at, timer2_inputs_at, timer2_out_at, hsi_edges_at, further_out_at, tick}
use Rattle.kc_block_spec.specs.Touch.{hso_works, hsi_works, timer2_touched, hso_touched, hsi_touched, further_works, further_touched}
use Rattle.kc_block_spec.specs.Rows.{GoesAlone, Timer2Alone, FurtherAlone}
use Rattle.kc_block_spec.proofs.Quiet.{same_masks, either_off}

-- a bit in which two masks do not differ
pub same_bit : (a b n : ℕ) → bit (bit_xor a b) n ≡ false → bit a n ≡ bit b n
same_bit a b n same =
    let sum : bit_at (bit_xor a b) n ≡ (bit_at a n + bit_at b n) % 2 = bit_at_xor a b n in
    let left : bit_at a n < 2 = bit_at-lt a n in
    let right : bit_at b n < 2 = bit_at-lt b n in
    let not_one : bit_at (bit_xor a b) n ≡ 1 → ⊥ = eqb-false (bit_at (bit_xor a b) n) 1 same in
    let equal : bit_at a n ≡ bit_at b n = omega arith in
    ap (λ k. k == 1) equal

-- a bit that is not set in one of two masks
pub no_bit : (a b n : ℕ) → bit a n ≡ false → bit (bit_and a b) n ≡ false
no_bit a b n off =
    let least : bit_at (bit_and a b) n ≡ min (bit_at a n) (bit_at b n) = bit_at_and a b n in
    let small : bit_at a n < 2 = bit_at-lt a n in
    let not_one : bit_at a n ≡ 1 → ⊥ = eqb-false (bit_at a n) 1 off in
    ne_eqb (bit_at (bit_and a b) n) 1 (λ e. omega arith)

pub inputs_off : (control : T2Control) (edges rise : ℕ) (fired : Option ℕ) → bit edges hsi1 ≡ false → bit edges t2clk ≡ false → bit rise hsi0 ≡ false → bit rise t2rst ≡ false →
    bit rise t2cap ≡ false → resets fired ≡ false → timer2_inputs control edges rise fired ≡ t2.no_inputs
inputs_off control edges rise fired a b c d e r = rw (a, b, c, d, e, r, either_off control.hsi1, either_off control.reset_hsi0) (by control.reset_on)
  where
    by : (on : Bool) → ◌≡◌ {A = T2Inputs} (record { clock = false; reset = (on && false) || false; capture = false }) t2.no_inputs
    by true = refl
    by false = refl

pub same_control : (s : BoardRegisters) (a b : ℕ) → bit a t2ud ≡ bit b t2ud → control_of s a ≡ control_of s b
same_control s a b same = rw same refl

pub bits_off : (pins : ℕ) → bit pins hsi0 ≡ false → bit pins hsi1 ≡ false → bit pins hsi2 ≡ false → bit pins hsi3 ≡ false → hsi_bits pins ≡ 0
bits_off pins a b c d = rw (a, b, c, d) refl

module _ {X : Type 0} (f : Further X) (t : ℕ) (u : Units X) where
  pub timer2_untouched : timer2_touched t u ≡ false → Timer2Alone f t u
  unfolding tick
  timer2_untouched none =
      let e = edges_at t u in
      let parts = or_parts ((bit e hsi0 || bit e hsi1) || ((bit e t2clk || bit e t2rst) || (bit e t2ud || bit e t2cap))) ((timer2_out_at t u).overflow || resets (fired_at t u)) none in
      let own = or_parts (timer2_out_at t u).overflow (resets (fired_at t u)) parts.1 in
      let pins = or_parts (bit e hsi0 || bit e hsi1) ((bit e t2clk || bit e t2rst) || (bit e t2ud || bit e t2cap)) parts.0 in
      let hsis = or_parts (bit e hsi0) (bit e hsi1) pins.0 in
      let others = or_parts (bit e t2clk || bit e t2rst) (bit e t2ud || bit e t2cap) pins.1 in
      let clocks = or_parts (bit e t2clk) (bit e t2rst) others.0 in
      let ups = or_parts (bit e t2ud) (bit e t2cap) others.1 in
      let control : control_at t u ≡ control_of u.board_registers u.board_registers.levels =
      same_control u.board_registers (levels_at t u) u.board_registers.levels (same_bit (levels_at t u) u.board_registers.levels t2ud ups.0) in
      let inputs : timer2_inputs_at t u ≡ t2.no_inputs =
      inputs_off (control_at t u) e (rises_at t u) (fired_at t u) hsis.1 clocks.0
      (no_bit e (levels_at t u) hsi0 hsis.0) (no_bit e (levels_at t u) t2rst clocks.1) (no_bit e (levels_at t u) t2cap ups.1) own.1 in
      record {
        alone = record {
          step =
              ap (λ i. t2.tick_of (control_at t u) i t u.timer2) inputs
              ∙ ap (λ c. t2.tick_of c t2.no_inputs t u.timer2) control;
          quiet =
              not_from_false _
              (sym (ap (λ i. t2.overflows (control_at t u) i t u.timer2) inputs ∙ ap (λ c. t2.overflows c t2.no_inputs t u.timer2) control) ∙ own.0);
        };
        control = control;
      }

  pub hso_untouched : hso_touched t u ≡ false → GoesAlone (cam.cam_rule (λ s. u.timer2.value)) t u.hso (tick f t u).units.hso
  unfolding tick
  hso_untouched none =
      let works = or_parts (hso_works t u) (timer2_touched t u) none in
      let parts = or_parts (cam.fires (cam.slot_at u.hso t) t u.timer2.value) (cam.loads u.hso t) works.0 in
      record { step = keep_unseen (bit u.board_registers.ioc2 6) t u.timer2.value u.hso parts.0; quiet = not_from_false _ works.0 }

  pub hsi_untouched : hsi_touched t u ≡ false → GoesAlone hsi.hsi_rule t u.hsi (tick f t u).units.hsi
  unfolding tick
  hsi_untouched none =
      let e = edges_at t u in
      let parts = or_parts ((bit e hsi0 || bit e hsi1) || (bit e hsi2 || bit e hsi3)) (hsi_works t u) none in
      let pins = or_parts (bit e hsi0 || bit e hsi1) (bit e hsi2 || bit e hsi3) parts.0 in
      let low = or_parts (bit e hsi0) (bit e hsi1) pins.0 in
      let high = or_parts (bit e hsi2) (bit e hsi3) pins.1 in
      let works = or_parts (hsi.is_push t (hsi.gathered_with (hsi_edges_at t u) u.hsi)) (hsi.is_move t u.hsi) parts.1 in
      let masks : (m : ℕ) → hsi_bits (bit_and e m) ≡ 0 =
      λ m. bits_off (bit_and e m) (no_bit e m hsi0 low.0) (no_bit e m hsi1 low.1) (no_bit e m hsi2 high.0) (no_bit e m hsi3 high.1) in
      let edges : hsi_edges_at t u ≡ no_edges_with (hsi_enabled u.board_registers.ioc0) =
      λ i. record { rising = masks (levels_at t u) i; falling = masks u.board_registers.levels i; enabled = hsi_enabled u.board_registers.ioc0 } in
      let push : hsi.is_push t (hsi.gathered_with (hsi_edges_at t u) u.hsi) ≡ hsi.is_push t u.hsi.gathered =
      ap (λ x. hsi.is_push t (hsi.gathered_with x u.hsi)) edges
      ∙ ap (λ n. hsi.is_push t (bit_or u.hsi.gathered n)) (events_none (hsi_enabled u.board_registers.ioc0) u.hsi.mode u.hsi.counts)
      ∙ ap (hsi.is_push t) (or_zero_r u.hsi.gathered) in
      record {
        step = ap (λ x. hsi.tick_of x t u.hsi) edges ∙ (enabled_matter_at_edges_alone (hsi_enabled u.board_registers.ioc0) t u.hsi).tick;
        quiet = and_from _ _ (not_from_false _ (sym push ∙ works.0)) (not_from_false _ works.1);
      }

  pub further_untouched : further_touched f t u ≡ false → FurtherAlone f t u
  unfolding tick
  further_untouched none =
      let parts = or_parts (not (edges_at t u == 0)) (further_works f t u || starts (fired_at t u)) none in
      let own = or_parts (further_works f t u) (starts (fired_at t u)) parts.1 in
      let inputs : edges_at t u ≡ 0 = eqb-true (edges_at t u) 0 (not-false (edges_at t u == 0) parts.0) in
      let level : levels_at t u ≡ u.board_registers.levels = same_masks (levels_at t u) u.board_registers.levels inputs in
      let silent : is_silent (further_out_at f t u) ≡ true = not-false (is_silent (further_out_at f t u)) own.0 in
      record {
        step =
            ap (λ b. if b then f.started t (f.step t (levels_at t u) (edges_at t u) u.further) else f.step t (levels_at t u) (edges_at t u) u.further) own.1
            ∙ ap (λ x. f.step t (levels_at t u) x u.further) inputs
            ∙ ap (λ l. f.step t l 0 u.further) level;
        silent =
            ap is_silent (sym (ap (λ x. f.out t (levels_at t u) x u.further) inputs ∙ ap (λ l. f.out t l 0 u.further) level)) ∙ silent;
      }
