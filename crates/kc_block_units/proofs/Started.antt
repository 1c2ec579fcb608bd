-- Deferred units that all stand where they were asked.
use Rattle.std.proofs.Common.{◌≡◌, ℕ, ◌<◌, false, refl, sym, ◌∙◌, ap, subst, arith, Option, Some, None}
use Rattle.std.specs.Prelude.{bit_or, bit_xor}
use lib.Bits.{or_zero_r}
use Rattle.kc_base.specs.Pins.{pin_count}
use Rattle.kc_span.specs.Span.{Rule, IsDue}
use Rattle.kc_due.specs.Due.{at_slot}
use Rattle.kc_stim.specs.Drives.{Drives, wire_to}
use Rattle.kc_hsi.specs.Input.{hsi_rule}
use Rattle.kc_extra.specs.Further.{Further}
use Rattle.kc_span.specs.DeferredUnit.{DeferredUnit, deferred_at, IsDeferred}
use Rattle.kc_span.proofs.DeferredUnits.{asked}
use Rattle.kc_block_spec.specs.Levels.{follows, wired, stimulated_before}
use Rattle.kc_block_spec.proofs.Quiet.{bit_none}
use Rattle.kc_block_units.proofs.InputMasks.{mask_rest, mask_start}
use Rattle.kc_block_units.specs.Scheduler.{Scheduler, AreHeld, IsScheduled}
use Rattle.kc_block_units.specs.Asked.{AreAsked}

-- no input follows an output where none is high
pub none_wired : (d : Drives) → wired d 0 ≡ 0
none_wired d =
    mask_rest (λ pin. follows (wire_to d.wires pin) 0) 0 pin_count (λ i le lt. by (wire_to d.wires i))
    ∙ mask_start (λ pin. follows (wire_to d.wires pin) 0)
  where
    by : (o : Option ℕ) → follows o 0 ≡ false
    by None = refl
    by (Some output) = bit_none output

pub start_held : (d : Drives) (levels : ℕ) → levels ≡ stimulated_before d 0 → AreHeld d levels 0
start_held d levels is = record {
  outs = 0;
  are = is ∙ sym (ap (bit_or (stimulated_before d 0)) (none_wired d) ∙ or_zero_r (stimulated_before d 0));
}

asked_at : {D : Type 0} (rule : Rule D) (deferred : DeferredUnit D) (now : ℕ) (slot : Option ℕ) → deferred.at ≡ now → IsDue rule now deferred.kept slot → IsDeferred rule deferred now slot
asked_at rule deferred now slot there is =
    subst (λ l. IsDeferred rule l now slot) (λ i. deferred_at (sym there i) deferred.kept) (asked rule now deferred.kept slot is)

pub scheduled_from_asked : {X : Type 0} (f : Further X) (agrees : ℕ → ℕ → X → Type 0) (h : Scheduler X) (now : ℕ) → AreAsked f h now →
    h.timer2.at ≡ now → h.hso.at ≡ now → h.hsi.at ≡ now → h.further.at ≡ now → h.flag.at ≡ now →
    AreHeld h.drives h.board_registers.levels now → h.timer2.kept.value < 65536 → ((m : ℕ) → agrees m (bit_xor h.board_registers.levels m) h.further.kept) → IsScheduled f agrees h now
scheduled_from_asked f agrees h now is a b c d e held value agreed = record {
  timer2 = asked_at _ h.timer2 now (at_slot h.due 0) a is.timer2;
  hso = asked_at _ h.hso now (at_slot h.due 1) b is.hso;
  hsi = asked_at hsi_rule h.hsi now (at_slot h.due 2) c is.hsi;
  further = asked_at _ h.further now (at_slot h.due 3) d is.further;
  flag = asked_at _ h.flag now (at_slot h.due 4) e is.flag;
  stimuli = is.stimuli;
  wires = is.wires;
  proper = is.proper;
  held = held;
  order = omega arith;
  value = value;
  agreed = agreed;
  spare = is.spare;
}
